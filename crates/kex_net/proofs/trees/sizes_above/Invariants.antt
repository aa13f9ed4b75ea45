use Rattle.std.proofs.Common.{◌≡◌, ◌*◌, ◌++◌, drop}
use Rattle.kex_net.specs.Trees.{above}
use Rattle.kex_net.proofs.trees.sizes_above.Given as goal

abbrev pub invariant-loop-pair : goal.invariant-loop-pair
invariant-loop-pair l = l.higher.items ++ above l.m (drop (2 * l.pair) l.sizes) ≡ above l.m l.sizes
