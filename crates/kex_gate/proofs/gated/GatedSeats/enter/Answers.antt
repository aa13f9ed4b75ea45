use Rattle.std.proofs.Common.{◌+◌, ◌*◌, ◌≤◌, ◌∙◌, ap, sym, subst}
use Rattle.kex_core.specs.Costs.{depth}
use Rattle.kex_core.specs.Shapes.{plan}
use Rattle.kex_words.specs.Passes.{TableNet, Pass}
use Rattle.kex_gate.specs.Passes.{Gate, Guest}
use Rattle.kex_gate.proofs.Calls.{few_of}
use Rattle.kex_gate.proofs.gated.GatedSeats.enter.Goals as goal

pub returns-clause-fast : goal.returns-clause-fast
returns-clause-fast g c fast = let n = c.enter.ensures in
    few_of _ _ _ _ _ c.args.self.now c.self.invariant c.self.view_is c.gates_are_short.ensures.of_gate c.admit-pass.result.1 _ _
    (ap (λ (z : Guest). z.gate) c.admit-pass.ensures.same.0 ∙ c.requires.own) (ap (λ (z : Pass). z.number) (sym c.admit-pass.ensures.same.1)) (c.tells.ensures.of_gate fast)
    (subst (λ (z : TableNet). c.enter.result.pass.firsts ≤ 3 * depth (plan z.net) c.admit-pass.result.0.number + z.net.width) (ap (λ (z : Gate). z.seats) c.self.view_is) n.accesses)
