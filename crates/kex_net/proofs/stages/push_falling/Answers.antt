use Rattle.std.proofs.Common.{◌+◌, ◌-◌, [], ◌∷◌, ◌++◌}
use Rattle.kex_net.specs.Trees.{falling}
use Rattle.kex_net.proofs.TreeLoops.{added, falling_step}
use Rattle.kex_net.proofs.stages.push_falling.Goals as goal

pub loop-i-preserved : goal.loop-i-preserved
loop-i-preserved c = let m = c.args.m in let count = c.args.count in let i = c.loop-i.i in
    added c.push.new.self.items c.loop-i.caps.items ((m + (count - 1 - i)) ∷ []) (falling m (count - (i + 1))) (falling m (count - i)) (c.args.caps.now.items ++ falling m count) c.in_ok-push.ensures.items (falling_step m count i c.loop-i-test.true) c.loop-i.invariant
