use Rattle.std.proofs.Common.{◌≡◌, ◌+◌, ◌-◌, ◌*◌, ◌/◌, ◌++◌}
use Rattle.kex_net.specs.Trees.{groups, bottom}
use Rattle.kex_net.proofs.trees.bottom_sizes.Given as goal

abbrev pub invariant-loop-group : goal.invariant-loop-group
invariant-loop-group l = l.sizes.items ++ groups ((l.n + l.m - 1) / l.m - l.group) l.m (l.n - l.group * l.m) ≡ bottom l.m l.n
