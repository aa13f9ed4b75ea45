use Rattle.std.proofs.Common.{length}
use Rattle.kex_net.proofs.trees.+levels_over.Given as goal

abbrev pub decreases-levels_over : goal.decreases-levels_over
decreases-levels_over l = length l.sizes.now
