use Rattle.std.proofs.Common.{ap, sym, ◌∙◌}
use Rattle.options_machine.specs.Rules.{Rules}
use Rattle.options_machine.specs.State.{State}
use Rattle.seat_counters.specs.Counts.{CounterList, counts_without}
use Rattle.seat_counters.proofs.Effects.{counts_of-silent}
use Rattle.seat_book.specs.Parts.{state_of}
use Rattle.seat_book.proofs.lapsing.let_silent_one_go.Goals as goal

pub returns-in-Some-clause-counted : goal.returns-in-Some-clause-counted
returns-in-Some-clause-counted c =
    let r : Rules = c.args.rules.now in
    let s : State = state_of c.args.parts.now in
    ap (λ (x : CounterList). x.counts) c.lower.ensures
    ∙ ap (counts_without r c.in-Some.holder.client c.in-Some.holder.charge) c.requires
    ∙ sym (counts_of-silent r s c.let_one_go.new.self.holders c.in-Some.holder c.in-Some.ensures.counts)
