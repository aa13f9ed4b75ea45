use Rattle.std.proofs.Common.{◌≡◌, ℕ, ap}
use Rattle.kex_gate.specs.Passes.{Guest, fresh}
use Rattle.desk_seats.specs.Passes.{guest_pass}
use Rattle.desk_seats.specs.Views.{gated_seats}
use Rattle.desk_seats.proofs.Gathers.{lifted, lifted_own}
use Rattle.desk_seats.proofs.seats.DeskSeats.make_gated.Goals as goal

pub returns-clause-passes : goal.returns-clause-passes
returns-clause-passes c =
    let g = c.in_ok-gate.gate in
    lifted guest_pass c.in_ok-gate.outs.items c.lift_gated.new.passes.items c.lift_gated.ensures (λ (i : ℕ). fresh g i) c.in_ok-gate.ensures.passes

pub returns-clause-own : goal.returns-clause-own
returns-clause-own c =
    let g = c.in_ok-gate.gate in
    lifted_own guest_pass c.in_ok-gate.outs.items c.lift_gated.new.passes.items c.lift_gated.ensures (λ (q : Guest). q.gate ≡ g) (gated_seats g) (λ q e. ap gated_seats e) c.in_ok-gate.ensures.own
