use Rattle.std.proofs.Common.{◌≡◌, ◌++◌, drop}
use Rattle.group_roster.specs.Rosters.{memberships}
use Rattle.group_roster.proofs.roster.memberships.Given as goal

abbrev pub invariant-loop-group : goal.invariant-loop-group
invariant-loop-group l = l.all.items ++ memberships l.group (drop l.group l.groups) ≡ memberships 0 l.groups
