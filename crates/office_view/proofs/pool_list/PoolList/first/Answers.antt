use Rattle.std.proofs.Common.{◌∙◌}
use Rattle.office_view.proofs.Found.{first_there}
use Rattle.office_view.proofs.pool_list.PoolList.first.Goals as goal

pub returns-clause-there : goal.returns-clause-there
returns-clause-there c = first_there _ _ c.args.name.now c.first.result c.first.ensures (c.as_slice.ensures.value ∙ c.self.view_is)
