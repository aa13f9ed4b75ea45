use Rattle.std.proofs.Common.{◌≡◌, ap, sym, subst, ◌∙◌}
use Rattle.options_machine.specs.Rules.{Rules}
use Rattle.options_machine.specs.State.{State}
use Rattle.seat_counters.specs.Counts.{AreSmall, CounterList, counts_of, counts_with}
use Rattle.seat_counters.proofs.Counted.{counts_are_small}
use Rattle.seat_counters.proofs.Effects.{counts_of-with_seat}
use Rattle.seat_book.specs.Parts.{state_of}
use Rattle.seat_book.specs.declared.parts.Parts.{Parts}
use Rattle.seat_book.proofs.members.seat.Goals as goal

pub raise-requires-clause-small : goal.raise-requires-clause-small
raise-requires-clause-small c =
    let r : Rules = c.args.rules.now in
    let s : State = state_of c.args.parts.now in
    let counted : c.put_seat.new.parts.counters.counts ≡ counts_of r s = ap (λ (x : Parts). x.counters.counts) c.put_seat.ensures.others ∙ c.requires.counted in
    subst AreSmall (sym counted) (counts_are_small r s c.requires.few)

pub returns-clause-counted : goal.returns-clause-counted
returns-clause-counted c =
    let r : Rules = c.args.rules.now in
    let s : State = state_of c.args.parts.now in
    let counted : c.put_seat.new.parts.counters.counts ≡ counts_of r s = ap (λ (x : Parts). x.counters.counts) c.put_seat.ensures.others ∙ c.requires.counted in
    ap (λ (x : CounterList). x.counts) c.raise.ensures
    ∙ ap (counts_with r c.args.client.now c.args.charge) counted
    ∙ sym (counts_of-with_seat r s c.args.party c.args.client.now c.args.charge c.args.told)
    ∙ ap (counts_of r) (sym c.put_seat.ensures.state)
