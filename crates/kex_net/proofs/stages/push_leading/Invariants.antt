use Rattle.std.proofs.Common.{◌≡◌, ◌+◌, ◌-◌, ◌++◌, suc}
use Rattle.kex_net.specs.Trees.{leading}
use Rattle.kex_net.proofs.stages.push_leading.Given as goal

abbrev pub invariant-loop-stage : goal.invariant-loop-stage
invariant-loop-stage l = l.next.items ++ leading (l.stage - 1) (suc (l.first + l.count - l.stage)) l.up ≡ l.initial.next.items ++ leading l.first l.count l.up
