use Rattle.std.proofs.Common.{◌∙◌, ap}
use Rattle.group_roster.specs.Listings.{name_print}
use Rattle.group_roster.proofs.Marks.{unmarked_as}
use Rattle.group_roster.proofs.prints.Prints.place_of.Goals as goal

pub returns-in_err-at-clause-none : goal.returns-in_err-at-clause-none
returns-in_err-at-clause-none c =
    rw c.from_residual.ensures (unmarked_as _ _ _ c.args.name.now _ _ _ _ c.self.invariant.marked c.self.view_is (c.name_print-print.ensures ∙ ap name_print c.bytes.ensures.bytes) (c.len.ensures ∙ c.self.inside.marks.ok.0) c.mark_at.ensures.at c.mark_at.ensures.within c.index.ensures c.in_err-at.was)
