use Rattle.std.proofs.Common.{rules}
use Rattle.std.proofs.lemmas.Fn.{always_returns_same}
use Rattle.group_roster.specs.declared.prints.Printed.{Printed}
use Rattle.group_roster.proofs.Places.{found_entry_as, no_entry_as}
use Rattle.group_roster.proofs.prints.Prints.searched.Goals as goal

pub returns-in-Ok-clause-found : goal.returns-in-Ok-clause-found
returns-in-Ok-clause-found c =
    let by_print = c.in-Ok.ensures.position (λ (p : Printed). p.print) (always_returns_same _ _ _ (λ a r f k. search rules)) in
    found_entry_as _ _ _ _ c.in-Ok.at c.index.result.now c.deref.ensures.value c.self.view_is c.in-Ok.ensures.bound by_print c.index.ensures

pub returns-in-Err-clause-none : goal.returns-in-Err-clause-none
returns-in-Err-clause-none c =
    let by_print = c.in-Err.ensures.position (λ (p : Printed). p.print) (always_returns_same _ _ _ (λ a r f k. search rules)) in
    no_entry_as _ _ _ _ c.in-Err.field-0 c.deref.ensures.value c.self.view_is c.self.invariant.sorted by_print
