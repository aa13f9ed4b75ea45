use Rattle.office_view.proofs.Chained.{within_next}
use Rattle.office_view.proofs.chains.Chains.next.Goals as goal

pub named_in-requires-clause-there : goal.named_in-requires-clause-there
named_in-requires-clause-there c = within_next _ _ c.args.pools.now c.args.i c.index-pools-i.result c.index.result.now c.requires.chained c.requires.there c.index.ensures
