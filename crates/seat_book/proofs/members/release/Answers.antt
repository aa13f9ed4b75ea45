use Rattle.std.proofs.Common.{ap, sym, ◌∙◌}
use Rattle.options_machine.specs.Rules.{Rules}
use Rattle.options_machine.specs.State.{State}
use Rattle.seat_rows.specs.Seats.{SeatList}
use Rattle.seat_rows.proofs.Seats.{single}
use Rattle.seat_counters.specs.Counts.{CounterList, counts_of, counts_without}
use Rattle.seat_counters.proofs.Effects.{counts_of-without_holder}
use Rattle.seat_book.specs.Parts.{state_of}
use Rattle.seat_book.proofs.members.release.Goals as goal

pub returns-clause-counted : goal.returns-clause-counted
returns-clause-counted c =
    let r : Rules = c.args.rules.now in
    let s : State = state_of c.args.parts.now in
    ap (λ (x : CounterList). x.counts) c.lower.ensures
    ∙ ap (counts_without r c.in-Some.holder.now.client c.in-Some.holder.now.charge) c.requires.counted
    ∙ sym (counts_of-without_holder r s c.args.party c.in-Some.holder.now (sym c.in-Some.ensures.seat) (single c.args.parts.now.seats c.args.party c.in-Some.ensures.kept))
    ∙ ap (λ (x : SeatList). counts_of r (record s { holders = x.holders })) (sym c.take.ensures)
