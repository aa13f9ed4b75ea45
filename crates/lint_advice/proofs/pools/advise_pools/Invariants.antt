use Rattle.std.proofs.Common.{◌≡◌, ◌++◌, take}
use Rattle.std.specs.List.{filter_map}
use Rattle.lint_advice.specs.Pools.{expiring}
use Rattle.lint_advice.proofs.pools.advise_pools.Given as goal

-- what is advised of the pools so far was put
abbrev pub invariant-loop-pool : goal.invariant-loop-pool
invariant-loop-pool l = l.advice.items ≡ l.fn.advice.items ++ filter_map (expiring l.horizon) (take l.pool-index l.pools)
