use Rattle.std.proofs.Common.{ℕ, List, ◌+◌, ◌-◌, ◌++◌, [], ◌∷◌, suc, ap, arith}
use Rattle.kex_net.specs.Trees.{leading}
use Rattle.kex_net.proofs.TreeLoops.{added, leading_start, leading_step}
use Rattle.kex_net.proofs.stages.push_leading.Goals as goal

pub loop-stage-init : goal.loop-stage-init
loop-stage-init c = ap (λ (v : List ℕ). c.args.next.now.items ++ v) (leading_start c.args.first c.args.count c.args.up (omega arith))

pub loop-stage-preserved : goal.loop-stage-preserved
loop-stage-preserved c = let first = c.args.first in let count = c.args.count in let up = c.args.up in let stage = c.loop-stage.stage in
    added c.push.new.self.items c.loop-stage.next.items (stage ∷ []) (leading (stage + 1 - 1) (suc (first + count - (stage + 1))) up) (leading (stage - 1) (suc (first + count - stage)) up) (c.args.next.now.items ++ leading first count up)
    c.in_ok-push.ensures.items (leading_step first count up stage (omega arith) c.loop-stage-test.true) c.loop-stage.invariant
