use Rattle.std.proofs.Common.{◌+◌, ◌-◌, ◌∙◌, ℕ, sym, subst, arith, length}
use Rattle.kex_core.specs.Nets.{before}
use Rattle.kex_core.specs.Shapes.{plan}
use Rattle.kex_core.proofs.Walks.{Walking, walking_low, walking_on, walking_end}
use Rattle.kex_core.proofs.net.Net.walked.Goals as goal

pub next_or_exit-k-requires : goal.next_or_exit-k-requires
next_or_exit-k-requires c =
    let l = walking_low (plan c.args.self.now).next c.loop-step.i c.args.j (before (plan c.args.self.now) c.args.p c.args.j) (length c.args.self.now.caps - c.loop-step._step) (omega arith) c.loop-step.invariant in omega arith

pub returns-then-k-j : goal.returns-then-k-j
returns-then-k-j c =
    walking_end (plan c.args.self.now).next c.loop-step.i c.args.j (before (plan c.args.self.now) c.args.p c.args.j) (length c.args.self.now.caps - c.loop-step._step) (omega arith) c.loop-step.invariant (sym c.next_or_exit-k.ensures ∙ c.if-k-j.true)

pub loop-step-preserved : goal.loop-step-preserved
loop-step-preserved c =
    let w = walking_on (plan c.args.self.now).next c.loop-step.i c.args.j (before (plan c.args.self.now) c.args.p c.args.j) (length c.args.self.now.caps - c.loop-step._step) (length c.args.self.now.caps - (c.loop-step._step + 1)) (omega arith) c.loop-step.invariant
    (λ e. c.if-k-j.false (c.next_or_exit-k.ensures ∙ e)) in
    subst (λ (i : ℕ). Walking (plan c.args.self.now).next (length c.args.self.now.caps - (c.loop-step._step + 1)) i c.args.j (before (plan c.args.self.now) c.args.p c.args.j)) (sym c.next_or_exit-k.ensures) w
