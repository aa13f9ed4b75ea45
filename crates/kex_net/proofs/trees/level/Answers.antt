use Rattle.std.proofs.Common.{◌≡◌, ◌+◌, ◌-◌, ◌*◌, ◌/◌, [], ◌∷◌, drop, get_or, length, ap, arith, ℕ}
use Rattle.kex_net.specs.Trees.{falling, leading, stage_met, level_caps, level_nexts, level_meets}
use Rattle.kex_net.proofs.TreeLoops.{added, last_added, all_added, pair_fits, same_next, caps_step, nexts_step, meets_step, last_up, caps_end, nexts_end, meets_none, meets_last}
use Rattle.kex_net.proofs.trees.level.Goals as goal
use Rattle.kex_net.proofs.trees.level.Goals.{then-sizes-eq1+in_ok-push, else-sizes-eq1}

pub loop-pair-preserved : goal.loop-pair-preserved
loop-pair-preserved c = let m = c.args.m in let sizes = c.args.sizes.now in let ups = c.args.ups.now in let p = c.loop-pair.pair in let first = c.loop-pair.first in
    let count : ℕ = get_or sizes (2 * p) 0 + get_or sizes (2 * p + 1) 0 - m in
    let more = c.loop-pair-test.true in
    let second : ℕ = first + c.saturating_sub-first.result in
    let e : second ≡ first + count = ap (λ (x : ℕ). first + x) c.saturating_sub-first.ensures in
    let fits = pair_fits sizes p more in
    record {
      caps = added c.push_pair.new.self.caps.items c.loop-pair.stages.caps.items (falling m count) (level_caps m (drop (2 * (p + 1)) sizes)) (level_caps m (drop (2 * p) sizes)) (level_caps m sizes) c.in_ok-push_pair.ensures.caps
          (caps_step m first sizes ups p more c.loop-pair.invariant.ups) c.loop-pair.invariant.caps;
      nexts = added c.push_pair.new.self.next.items c.loop-pair.stages.next.items (leading first count (get_or ups p 0)) (level_nexts m second (drop (2 * (p + 1)) sizes) (drop (p + 1) ups)) (level_nexts m first (drop (2 * p) sizes) (drop p ups)) (level_nexts m c.args.base sizes ups) c.in_ok-push_pair.ensures.nexts
          (nexts_step m first sizes ups p more c.loop-pair.invariant.ups second e) c.loop-pair.invariant.nexts;
      meets = added c.push_pair.new.self.meets.items c.loop-pair.stages.meets.items (stage_met first count (get_or ups p 0) ∷ stage_met first count (get_or ups p 0) ∷ []) (level_meets m second (drop (2 * (p + 1)) sizes) (drop (p + 1) ups)) (level_meets m first (drop (2 * p) sizes) (drop p ups)) (level_meets m c.args.base sizes ups) c.in_ok-push_pair.ensures.meets
          (meets_step m first sizes ups p more c.loop-pair.invariant.ups second e) c.loop-pair.invariant.meets;
      ups = same_next m first sizes ups p more c.loop-pair.invariant.ups;
      room = let r = c.loop-pair.invariant.room in omega arith;
    }

pub bounds-ups-sizes : goal.bounds-ups-sizes
bounds-ups-sizes c = last_up c.args.m c.loop-pair.first c.args.sizes.now c.args.ups.now c.loop-pair.pair c.loop-pair-test.false c.loop-pair.auto.pair-end c.loop-pair.invariant.ups c.if-sizes-eq1.true

pub returns-clause-caps : goal.returns-clause-caps
returns-clause-caps c = let m = c.args.m in let sizes = c.args.sizes.now in let ups = c.args.ups.now in let p = c.loop-pair.pair in
    let k : c.loop-pair.stages.caps.items ≡ level_caps m sizes = all_added c.loop-pair.stages.caps.items (level_caps m (drop (2 * p) sizes)) (level_caps m sizes) (caps_end m c.loop-pair.first sizes ups p c.loop-pair-test.false c.loop-pair.auto.pair-end c.loop-pair.invariant.ups) c.loop-pair.invariant.caps in
    elim c.if-sizes-eq1.branch [ then-sizes-eq1+in_ok-push w ↦ rw w.stages-is k | else-sizes-eq1 w ↦ rw w.stages-is k ]

pub returns-clause-nexts : goal.returns-clause-nexts
returns-clause-nexts c = let m = c.args.m in let sizes = c.args.sizes.now in let ups = c.args.ups.now in let p = c.loop-pair.pair in
    let k : c.loop-pair.stages.next.items ≡ level_nexts m c.args.base sizes ups = all_added c.loop-pair.stages.next.items (level_nexts m c.loop-pair.first (drop (2 * p) sizes) (drop p ups)) (level_nexts m c.args.base sizes ups)
    (nexts_end m c.loop-pair.first sizes ups p c.loop-pair-test.false c.loop-pair.auto.pair-end c.loop-pair.invariant.ups) c.loop-pair.invariant.nexts in
    elim c.if-sizes-eq1.branch [ then-sizes-eq1+in_ok-push w ↦ rw w.stages-is k | else-sizes-eq1 w ↦ rw w.stages-is k ]

pub returns-clause-meets : goal.returns-clause-meets
returns-clause-meets c = let m = c.args.m in let sizes = c.args.sizes.now in let ups = c.args.ups.now in let p = c.loop-pair.pair in
    elim c.if-sizes-eq1.branch [
      | then-sizes-eq1+in_ok-push w ↦ let k : w.push.new.self.items ≡ level_meets m c.args.base sizes ups = last_added w.push.new.self.items c.loop-pair.stages.meets.items (get_or ups (length sizes / 2) 0 ∷ []) (level_meets m c.loop-pair.first (drop (2 * p) sizes) (drop p ups)) (level_meets m c.args.base sizes ups) w.in_ok-push.ensures.items
          (meets_last m c.loop-pair.first sizes ups p c.loop-pair-test.false c.loop-pair.auto.pair-end c.loop-pair.invariant.ups w.if-sizes-eq1.true) c.loop-pair.invariant.meets in rw w.stages-is k
      | else-sizes-eq1 w ↦ let k : c.loop-pair.stages.meets.items ≡ level_meets m c.args.base sizes ups = all_added c.loop-pair.stages.meets.items (level_meets m c.loop-pair.first (drop (2 * p) sizes) (drop p ups)) (level_meets m c.args.base sizes ups)
          (meets_none m c.loop-pair.first sizes ups p c.loop-pair-test.false c.loop-pair.auto.pair-end c.loop-pair.invariant.ups w.if-sizes-eq1.false) c.loop-pair.invariant.meets in rw w.stages-is k
    ]
