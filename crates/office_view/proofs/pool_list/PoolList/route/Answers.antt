use Rattle.std.proofs.Common.{◌∙◌}
use Rattle.office_view.proofs.Found.{nowhere_within, routed_at, routed_nowhere}
use Rattle.office_view.proofs.pool_list.PoolList.route.Goals as goal

pub returns-in-Pool-clause-found : goal.returns-in-Pool-clause-found
returns-in-Pool-clause-found c =
    routed_at _ _ _ c.args.version.key c.args.moment c.args.first c.in-Pool.i c.index.result.now c.find_pool.result c.requires.there c.requires.first (c.deref.ensures.value ∙ c.self.view_is) c.self.view_is c.index.ensures c.find_pool.ensures.found c.in-Pool.is

pub returns-in_default : goal.returns-in_default
returns-in_default c = record {
  found = routed_nowhere _ _ _ c.args.version.key c.args.moment c.args.first c.index.result.now c.find_pool.result c.requires.there c.requires.first (c.deref.ensures.value ∙ c.self.view_is) c.self.view_is c.index.ensures c.find_pool.ensures.found c.in_default.not-Pool;
  there = nowhere_within _ _ c.in_default.not-Pool;
}
