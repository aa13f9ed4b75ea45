use Rattle.std.proofs.Common.{rules, subst}
use Rattle.std.proofs.lemmas.Fn.{always_returns_same}
use Rattle.group_roster.specs.Printed.{AreMarked}
use Rattle.group_roster.specs.declared.prints.Printed.{Printed}
use Rattle.group_roster.proofs.prints.Prints.of.Goals as goal

pub invariant_of-result : goal.invariant_of-result
invariant_of-result c = record {
  sorted = c.sort_unstable_by_key.ensures.sorted (λ (p : Printed). p.print) (always_returns_same _ _ _ (λ a r f k. search rules));
  marked = subst (AreMarked c.in_ok-marks.marks.items) c.as_slice.ensures.value c.in_ok-marks.ensures;
}
