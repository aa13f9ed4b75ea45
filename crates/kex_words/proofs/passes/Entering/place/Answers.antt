use Rattle.std.proofs.Common.{◌∙◌, sym, ap, subst, ◌≡◌}
use Rattle.kex_words.specs.Passes.{kind_of, due_at, entering}
use Rattle.kex_words.proofs.Entries.{enters_at}
use Rattle.kex_words.proofs.passes.Entering.place.Goals as goal

pub returns-clause-due : goal.returns-clause-due
returns-clause-due c = enters_at c.args.self.now _ (ap (λ x. x.place) (sym c.self.view_is) ∙ (ap (λ x. x.seated.place) (sym c.self-inside.view_is) ∙ sym c.self-inside.invariant.2)) (subst (λ p. kind_of (due_at p) ≡ entering) c.self.view_is c.self.invariant)
