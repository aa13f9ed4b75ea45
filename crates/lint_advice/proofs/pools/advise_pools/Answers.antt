use Rattle.std.proofs.Common.{◌++◌, ap, ◌∙◌, Option}
use Rattle.std.specs.Option.{option_to_list}
use Rattle.lint_advice.specs.Pools.{expiring}
use Rattle.lint_advice.specs.declared.advice.Advice.{Advice}
use Rattle.lint_advice.proofs.Lists.{filter_map_more}
use Rattle.lint_advice.proofs.pools.advise_pools.Goals as goal

pub loop-pool-preserved : goal.loop-pool-preserved
loop-pool-preserved c =
    filter_map_more (expiring c.args.horizon) c.args.pools.now c.loop-pool.pool-index c.pool-item.result c.args.advice.now.items c.loop-pool.advice.items c.put.new.advice.items
    c.loop-pool-test.true c.pool-item.is c.loop-pool.invariant
    (c.in_ok-put.ensures ∙ ap (λ (o : Option Advice). c.loop-pool.advice.items ++ option_to_list o) c.expiring.ensures)
