use Rattle.std.proofs.Common.{◌≡◌, sum, length, ◌+◌, ◌-◌, ◌*◌, ◌/◌, ◌∙◌, [], ◌∷◌, ap, sym, arith, ℕ}
use Rattle.kex_net.specs.Trees.{groups, bottom}
use Rattle.kex_net.proofs.TreeLoops.{added, all_added, groups_step}
use Rattle.kex_net.proofs.TreeNets.{sum-groups, length-groups, groups_enough}
use Rattle.kex_net.proofs.trees.bottom_sizes.Goals as goal

pub loop-group-preserved : goal.loop-group-preserved
loop-group-preserved c = let n = c.args.n in let m = c.args.m in let i = c.loop-group.group in let more = (n + m - 1) / m in
    added c.push.new.self.items c.loop-group.sizes.items (c.min.result ∷ []) (groups (more - (i + 1)) m (n - (i + 1) * m)) (groups (more - i) m (n - i * m)) (bottom m n) c.in_ok-push.ensures.items
    (groups_step more m n i c.loop-group-test.true ∙ ap (λ (x : ℕ). x ∷ groups (more - (i + 1)) m (n - (i + 1) * m)) (sym c.min.ensures)) c.loop-group.invariant

pub returns-clause-total : goal.returns-clause-total
returns-clause-total c = let n = c.args.n in let m = c.args.m in let more = (n + m - 1) / m in let i = c.loop-group.group in
    let z : more - i ≡ 0 = omega arith in
    ap sum (all_added c.loop-group.sizes.items (groups (more - i) m (n - i * m)) (bottom m n) (ap (λ (x : ℕ). groups x m (n - i * m)) z) c.loop-group.invariant) ∙ sum-groups more m n (groups_enough n m c.requires.some)

pub returns-clause-count : goal.returns-clause-count
returns-clause-count c = let n = c.args.n in let m = c.args.m in let more = (n + m - 1) / m in let i = c.loop-group.group in
    let z : more - i ≡ 0 = omega arith in
    ap length (all_added c.loop-group.sizes.items (groups (more - i) m (n - i * m)) (bottom m n) (ap (λ (x : ℕ). groups x m (n - i * m)) z) c.loop-group.invariant) ∙ length-groups more m n
