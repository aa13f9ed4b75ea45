use Rattle.group_roster.proofs.Rosters.{in_order_as}
use Rattle.group_roster.proofs.roster.Members.of.Goals as goal

pub invariant_of-result : goal.invariant_of-result
invariant_of-result c = in_order_as _ _ _ _ _ c.as_slice.ensures.value c.as_slice-2.ensures.value c.in_ok-order.ensures c.put_in_order.ensures.same c.put_in_order.ensures.sorted
