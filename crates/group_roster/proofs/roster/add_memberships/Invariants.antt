use Rattle.std.proofs.Common.{◌≡◌, ◌++◌, drop}
use Rattle.group_roster.specs.Rosters.{memberships_of}
use Rattle.group_roster.proofs.roster.add_memberships.Given as goal

abbrev pub invariant-loop-member : goal.invariant-loop-member
invariant-loop-member l = l.all.items ++ memberships_of l.group l.of_group l.member (drop l.member l.members) ≡ l.fn.all.items ++ memberships_of l.group l.of_group 0 l.members
