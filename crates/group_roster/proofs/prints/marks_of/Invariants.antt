use Rattle.group_roster.proofs.Marks.{AreMarkedTo}
use Rattle.group_roster.proofs.prints.marks_of.Given as goal

abbrev pub invariant-loop-at : goal.invariant-loop-at
invariant-loop-at l = AreMarkedTo l.count l.marks.items l.names l.at
