use Rattle.std.proofs.Common.{ap, arith, subst}
use Rattle.options_machine.specs.Law.{IsLawful}
use Rattle.options_machine.specs.State.{set_at}
use Rattle.options_machine.proofs.Runs.{lawful}
use Rattle.policy.specs.Books.{Book}
use Rattle.policy.specs.Kept.{state_of}
use Rattle.policy.proofs.plain.PlainBook.step.Goals as goal

pub returns-clause-lawful : goal.returns-clause-lawful
returns-clause-lawful c =
    subst (λ (b : Book). IsLawful b.sets (set_at b.sets 0).count b.state) c.self.view_is
    (lawful c.self.inside.sets.items (set_at c.self.inside.sets.items 0).count (state_of c.self.inside.lists) c.self.invariant.rules (record { set = c.self.invariant.set; kept = c.self.invariant.kept }))

pub returns-clause-within : goal.returns-clause-within
returns-clause-within c = omega (arith, c.step-said.ensures.moment, ap (λ (b : Book). b.state.now) c.self.view_is, c.self.invariant.bounded.moment)
