use Rattle.std.proofs.Common.{◌≡◌, ℕ, ◌<◌, ◌≤◌, ◌%◌, ◌^◌, List, length, reverse, Some, ap, sym, ◌∙◌, subst}
use Rattle.kex_words.specs.Passes.{counted_card, times}
use Rattle.kex_gate.specs.Passes.{session_numbers}
use Rattle.desk_seats.specs.Kinds.{seats_in}
use Rattle.desk_seats.specs.Taken.{SeatsTaken, got_by, got_in, numbers_in}
use Rattle.desk_seats.specs.Views.{SeatsView, gated_seats, parties_of}
use Rattle.desk_seats.proofs.Gathers.{used_counted}
use Rattle.desk_seats.proofs.Lists.{length-got_by, length-numbers, times-got_by, times-reverse}
use Rattle.desk_seats.proofs.seats.DeskSeats.close_gathered.Goals as goal

pub close-requires-clause-count : goal.close-requires-clause-count
close-requires-clause-count c =
    let items = c.in-Gated-taken.passes.items in
    let numbers : c.args.gathering.numbers ≡ reverse (session_numbers items) = sym (ap (λ (g : SeatsTaken). g.numbers) c.gathering.view_is) ∙ ap numbers_in c.in-Gated-taken.is in
    let seats : c.args.self ≡ gated_seats c.in-Gated.gate = sym c.self.view_is ∙ ap seats_in c.in-Gated.is in
    c.in-Gated-taken.passes.ok.0 ∙ (sym (length-numbers items) ∙ (ap length (sym numbers) ∙ (c.requires.count ∙ ap parties_of seats)))

pub returns-clause-cards : goal.returns-clause-cards
returns-clause-cards c i lt =
    let items = c.in-Gated-taken.passes.items in
    let got : got_by items ≡ c.args.gathering.got = sym (ap got_in c.in-Gated-taken.is) ∙ ap (λ (g : SeatsTaken). g.got) c.gathering.view_is in
    c.close.ensures.cards i lt ∙ (λ j. Some ((used_counted items i ∙ ap (λ (l : List ℕ). counted_card l i) got) j))

pub returns-clause-uses : goal.returns-clause-uses
returns-clause-uses c =
    let items = c.in-Gated-taken.passes.items in
    let got : got_by items ≡ c.args.gathering.got = sym (ap got_in c.in-Gated-taken.is) ∙ ap (λ (g : SeatsTaken). g.got) c.gathering.view_is in
    c.close.ensures.uses ∙ ap (λ (n : ℕ). n % 2 ^ 64) (length-got_by items ∙ ap length got)

pub returns-clause-numbers : goal.returns-clause-numbers
returns-clause-numbers c q lt =
    let items = c.in-Gated-taken.passes.items in
    let numbers : c.args.gathering.numbers ≡ reverse (session_numbers items) = sym (ap (λ (g : SeatsTaken). g.numbers) c.gathering.view_is) ∙ ap numbers_in c.in-Gated-taken.is in
    let seats : c.args.self ≡ gated_seats c.in-Gated.gate = sym c.self.view_is ∙ ap seats_in c.in-Gated.is in
    ap (times q) numbers ∙ (times-reverse q (session_numbers items) ∙ c.close.ensures.numbers q (subst (λ (n : ℕ). q < n) (ap parties_of seats) lt))

pub returns-clause-got : goal.returns-clause-got
returns-clause-got c s le =
    let items = c.in-Gated-taken.passes.items in
    let got : got_by items ≡ c.args.gathering.got = sym (ap got_in c.in-Gated-taken.is) ∙ ap (λ (g : SeatsTaken). g.got) c.gathering.view_is in
    let seats : c.args.self ≡ gated_seats c.in-Gated.gate = sym c.self.view_is ∙ ap seats_in c.in-Gated.is in
    ap (times s) (sym got) ∙ (sym (times-got_by items s) ∙ c.close.ensures.got s (subst (λ (v : SeatsView). v.net.width ≤ s) seats le))
