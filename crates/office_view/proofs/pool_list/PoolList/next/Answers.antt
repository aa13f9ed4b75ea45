use Rattle.std.proofs.Common.{◌∙◌}
use Rattle.office_view.proofs.Found.{next_there}
use Rattle.office_view.proofs.pool_list.PoolList.next.Goals as goal

pub returns-clause-there : goal.returns-clause-there
returns-clause-there c = next_there _ _ c.args.i c.next.result (c.as_slice.ensures.value ∙ c.self.view_is) c.requires c.next.ensures
