use Rattle.std.proofs.Common.{rules}
use Rattle.group_roster.proofs.Rosters.{ordered_by}
use Rattle.group_roster.proofs.roster.put_in_order.Goals as goal

pub returns-clause-sorted : goal.returns-clause-sorted
returns-clause-sorted c = ordered_by c.args.groups.now _ c.sort_unstable_by.ensures.sorted (λ a r f k. search rules)
