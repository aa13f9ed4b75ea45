use Rattle.std.proofs.Common.{◌≡◌, ◌≢◌, ◌+◌, ◌-◌, ◌∙◌, ℕ, sym, ap, arith, length}
use Rattle.kex_core.specs.Nets.{visits, walk}
use Rattle.kex_core.specs.Shapes.{plan}
use Rattle.kex_core.proofs.Paths.{visit_here}
use Rattle.kex_core.proofs.Walks.{visit_more, walk_more, walk_here}
use Rattle.kex_core.proofs.net.Net.before.Goals as goal

pub returns-then-k-j : goal.returns-then-k-j
returns-then-k-j c =
    let e : (plan c.args.self.now).next c.loop-step.i ≡ c.args.j = sym c.next_or_exit-k.ensures ∙ c.if-k-j.true in
    let w = walk_here (plan c.args.self.now).next (length c.args.self.now.caps - c.loop-step._step) (length c.args.self.now.caps - (c.loop-step._step + 1)) c.loop-step.i c.args.j (omega arith) e in
    let v = visit_more (plan c.args.self.now).next (length c.args.self.now.caps - c.loop-step._step) (length c.args.self.now.caps - (c.loop-step._step + 1)) c.loop-step.i c.args.j (omega arith) c.if-i-j-2.false in
    let t = visit_here (plan c.args.self.now).next (length c.args.self.now.caps - (c.loop-step._step + 1)) ((plan c.args.self.now).next c.loop-step.i) c.args.j e in
    (sym w ∙ c.loop-step.invariant.1, sym c.loop-step.invariant.0 ∙ (v ∙ t), λ q. c.if-i-j.false (c.start_or_exit-i.ensures ∙ q))

pub loop-step-preserved : goal.loop-step-preserved
loop-step-preserved c =
    let d : (plan c.args.self.now).next c.loop-step.i ≢ c.args.j = λ e. c.if-k-j.false (c.next_or_exit-k.ensures ∙ e) in
    let w = walk_more (plan c.args.self.now).next (length c.args.self.now.caps - c.loop-step._step) (length c.args.self.now.caps - (c.loop-step._step + 1)) c.loop-step.i c.args.j (omega arith) d in
    let v = visit_more (plan c.args.self.now).next (length c.args.self.now.caps - c.loop-step._step) (length c.args.self.now.caps - (c.loop-step._step + 1)) c.loop-step.i c.args.j (omega arith) c.if-i-j-2.false in (
      ap (λ (k : ℕ). visits (plan c.args.self.now).next (length c.args.self.now.caps - (c.loop-step._step + 1)) k c.args.j) c.next_or_exit-k.ensures ∙ (sym v ∙ c.loop-step.invariant.0),
      ap (λ (k : ℕ). walk (plan c.args.self.now).next (length c.args.self.now.caps - (c.loop-step._step + 1)) k c.args.j) c.next_or_exit-k.ensures ∙ (sym w ∙ c.loop-step.invariant.1),
      c.if-k-j.false,
    )
