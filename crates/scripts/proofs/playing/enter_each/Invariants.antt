use Rattle.std.proofs.Common.{◌≡◌, ◌++◌, drop, map, take}
use Rattle.scripts.specs.PoolRuns.{entered_at}
use Rattle.scripts.proofs.playing.enter_each.Given as goal

abbrev pub invariant-loop-run : goal.invariant-loop-run
invariant-loop-run l = l.runs ≡ map (entered_at l.line) (take l.run-index l.fn.runs) ++ drop l.run-index l.fn.runs
