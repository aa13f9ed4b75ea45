use Rattle.std.proofs.Common.{◌≡◌, ◌<◌, ◌+◌, ◌-◌, ◌*◌, ◌∙◌, List, get_or, length, sum, subst, [], ◌∷◌, drop, ap, sym, arith, ℕ}
use Rattle.kex_net.specs.Trees.{above, level_caps}
use Rattle.kex_net.proofs.TreeNets.{sum-above, above_fewer}
use Rattle.kex_net.proofs.TreeLoops.{added, last_added, all_added, above_step, above_last, none_left, pair_most}
use Rattle.kex_net.proofs.trees.sizes_above.Goals as goal
use Rattle.kex_net.proofs.trees.sizes_above.Goals.{then-sizes-eq1+in_ok-push-2, else-sizes-eq1}

pub overflow_add-sizes : goal.overflow_add-sizes
overflow_add-sizes c = let h = pair_most c.args.sizes.now c.loop-pair.pair c.loop-pair-test.true in omega arith

pub loop-pair-preserved : goal.loop-pair-preserved
loop-pair-preserved c = let m = c.args.m in let sizes = c.args.sizes.now in let p = c.loop-pair.pair in
    added c.push.new.self.items c.loop-pair.higher.items (c.min.result ∷ []) (above m (drop (2 * (p + 1)) sizes)) (above m (drop (2 * p) sizes)) (above m sizes) c.in_ok-push.ensures.items
    (above_step m sizes p c.loop-pair-test.true ∙ ap (λ (x : ℕ). x ∷ above m (drop (2 * (p + 1)) sizes)) (sym c.min.ensures)) c.loop-pair.invariant

pub returns-clause-total : goal.returns-clause-total
returns-clause-total c = let m = c.args.m in let sizes = c.args.sizes.now in let p = c.loop-pair.pair in let old = c.loop-pair.higher.items in
    let k : c.if-sizes-eq1.higher.items ≡ above m sizes = elim c.if-sizes-eq1.branch [
      | then-sizes-eq1+in_ok-push-2 w ↦ let h : w.push-then-sizes-eq1.new.self.items ≡ above m sizes = last_added w.push-then-sizes-eq1.new.self.items old (get_or sizes (length sizes - 1) 0 ∷ []) (above m (drop (2 * p) sizes)) (above m sizes) w.in_ok-push-2.ensures.items
          (above_last m sizes p c.loop-pair-test.false c.loop-pair.auto.pair-end w.if-sizes-eq1.true) c.loop-pair.invariant in rw w.higher-is h
      | else-sizes-eq1 w ↦ let h : old ≡ above m sizes = all_added old (above m (drop (2 * p) sizes)) (above m sizes) (ap (above m) (none_left sizes p c.loop-pair-test.false w.if-sizes-eq1.false)) c.loop-pair.invariant in rw w.higher-is h
    ] in
    ap (λ (v : List ℕ). sum v + length (level_caps m sizes)) k ∙ sum-above m sizes

pub returns-clause-fewer : goal.returns-clause-fewer
returns-clause-fewer c = let m = c.args.m in let sizes = c.args.sizes.now in let p = c.loop-pair.pair in let old = c.loop-pair.higher.items in
    let k : c.if-sizes-eq1.higher.items ≡ above m sizes = elim c.if-sizes-eq1.branch [
      | then-sizes-eq1+in_ok-push-2 w ↦ let h : w.push-then-sizes-eq1.new.self.items ≡ above m sizes = last_added w.push-then-sizes-eq1.new.self.items old (get_or sizes (length sizes - 1) 0 ∷ []) (above m (drop (2 * p) sizes)) (above m sizes) w.in_ok-push-2.ensures.items
          (above_last m sizes p c.loop-pair-test.false c.loop-pair.auto.pair-end w.if-sizes-eq1.true) c.loop-pair.invariant in rw w.higher-is h
      | else-sizes-eq1 w ↦ let h : old ≡ above m sizes = all_added old (above m (drop (2 * p) sizes)) (above m sizes) (ap (above m) (none_left sizes p c.loop-pair-test.false w.if-sizes-eq1.false)) c.loop-pair.invariant in rw w.higher-is h
    ] in
    λ two. subst (λ (v : List ℕ). length v < length sizes) (sym k) (above_fewer m sizes two)
