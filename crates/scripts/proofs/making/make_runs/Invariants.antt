use Rattle.std.proofs.Common.{◌≡◌, map, take}
use Rattle.scripts.specs.PoolRuns.{run_of}
use Rattle.scripts.proofs.making.make_runs.Given as goal

abbrev pub invariant-loop-pool : goal.invariant-loop-pool
invariant-loop-pool l = l.runs.items ≡ map (run_of l.options) (take l.pool-index l.pools)
