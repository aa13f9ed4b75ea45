use Rattle.std.proofs.Common.{◌≡◌, ℕ, ap}
use Rattle.kex_words.specs.Passes as words
use Rattle.desk_seats.specs.Passes.{plain_pass}
use Rattle.desk_seats.specs.Views.{plain_seats}
use Rattle.desk_seats.proofs.Gathers.{lifted, lifted_own}
use Rattle.desk_seats.proofs.seats.DeskSeats.make.Goals as goal

pub returns-clause-passes : goal.returns-clause-passes
returns-clause-passes c =
    let t = c.in_ok-seats.seats in
    lifted plain_pass c.in_ok-seats.outs.items c.lift_plain.new.passes.items c.lift_plain.ensures (λ (i : ℕ). words.unused_pass t i) c.in_ok-seats.ensures.passes

pub returns-clause-own : goal.returns-clause-own
returns-clause-own c =
    let t = c.in_ok-seats.seats in
    lifted_own plain_pass c.in_ok-seats.outs.items c.lift_plain.new.passes.items c.lift_plain.ensures (λ (p : words.Pass). p.table ≡ t) (plain_seats t) (λ p e. ap plain_seats e) c.in_ok-seats.ensures.own
