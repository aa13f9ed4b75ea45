use Rattle.group_roster.proofs.Rosters.{lists_as, sorted_as}
use Rattle.group_roster.proofs.roster.Members.lists.Goals as goal

pub has-requires : goal.has-requires
has-requires c = sorted_as _ _ _ _ c.as_slice.ensures.value c.as_slice-2.ensures.value c.self.invariant

pub returns : goal.returns
returns c = lists_as _ _ _ _ _ _ _ _ _ _ c.as_slice.ensures.value c.as_slice-2.ensures.value c.self.view_is c.listed.ensures c.self.invariant c.has.ensures
