use Rattle.std.proofs.Common.{◌≡◌, ◌+◌, ◌-◌, ◌++◌, ◌∙◌, ℕ, List, length, sum, ap, arith}
use Rattle.kex_net.specs.Trees.{level_caps, level_nexts, level_meets}
use Rattle.kex_net.proofs.TreeLoops.{top_levels, level_more}
use Rattle.kex_net.proofs.TreeNets.{length-level_meets}
use Rattle.kex_net.proofs.trees.+levels_over.Goals as goal

pub returns-then-sizes-eq1-clause-levels : goal.returns-then-sizes-eq1-clause-levels
returns-then-sizes-eq1-clause-levels t c = top_levels c.args.m c.args.first c.args.sizes.now c.new.result.items c.new-then-sizes-eq1.result.items c.in_ok-vec.field-0.items c.if-sizes-eq1.true c.new.ensures.items c.new-then-sizes-eq1.ensures.items c.in_ok-vec.ensures.items

pub returns-clause-levels : goal.returns-clause-levels
returns-clause-levels t c = let m = c.args.m in let first = c.args.first in let sizes = c.args.sizes.now in let ups = c.in_ok-up.up.meets.items in
    let a : sum c.deref.result.now ≡ sum c.in_ok-higher.higher.items = ap sum c.deref.ensures.value in
    let b = c.in_ok-higher.ensures.total in
    level_more m first (first + (c.total.result - c.total-2.result)) sizes c.extend_from_slice.new.self.items c.extend_from_slice-2.new.self.items c.in_ok-stages.stages.meets.items c.deref-2.result.now c.in_ok-up.up.caps.items c.in_ok-up.up.next.items ups
    (omega arith) (c.deref-2.ensures.value ∙ c.in_ok-higher.ensures.value) (omega arith) c.in_ok-up.ensures.levels
    (c.in_ok-extend_from_slice.ensures.items ∙ (ap (λ (v : List ℕ). v ++ c.deref-4.result.now) c.in_ok-stages.ensures.caps ∙ ap (λ (v : List ℕ). level_caps m sizes ++ v) c.deref-4.ensures.value))
    (c.in_ok-extend_from_slice-2.ensures.items ∙ (ap (λ (v : List ℕ). v ++ c.deref-5.result.now) (c.in_ok-stages.ensures.nexts ∙ ap (λ (v : List ℕ). level_nexts m first sizes v) c.deref-3.ensures.value) ∙ ap (λ (v : List ℕ). level_nexts m first sizes ups ++ v) c.deref-5.ensures.value))
    (c.in_ok-stages.ensures.meets ∙ ap (λ (v : List ℕ). level_meets m first sizes v) c.deref-3.ensures.value)

pub returns-clause-meets : goal.returns-clause-meets
returns-clause-meets t c = ap length c.in_ok-stages.ensures.meets ∙ length-level_meets c.args.m c.args.first c.args.sizes.now c.deref-3.result.now
    (ap length c.deref-3.ensures.value ∙ (c.in_ok-up.ensures.meets ∙ ap length (c.deref-2.ensures.value ∙ c.in_ok-higher.ensures.value)))
