use Rattle.std.proofs.Common.{◌≡◌, ◌-◌, ◌++◌}
use Rattle.kex_net.specs.Trees.{falling}
use Rattle.kex_net.proofs.stages.push_falling.Given as goal

abbrev pub invariant-loop-i : goal.invariant-loop-i
invariant-loop-i l = l.caps.items ++ falling l.m (l.count - l.i) ≡ l.initial.caps.items ++ falling l.m l.count
