use Rattle.std.proofs.Common.{◌+◌, ◌*◌, ◌≤◌, ◌∙◌, ap, subst}
use Rattle.kex_core.specs.Costs.{depth}
use Rattle.kex_core.specs.Shapes.{plan}
use Rattle.kex_words.specs.Passes.{TableNet}
use Rattle.kex_gate.specs.Passes.{Gate, WayThrough}
use Rattle.kex_gate.proofs.Calls.{few_of}
use Rattle.kex_gate.proofs.gated.GatedSeats.name.Goals as goal

pub returns-clause-fast : goal.returns-clause-fast
returns-clause-fast c fast = let n = c.name.ensures in
    few_of _ _ _ _ _ c.args.self.now c.self.invariant c.self.view_is c.gates_are_short.ensures.of_gate c.t.inside.lane _ _
    (ap (λ (t : WayThrough). t.guest.gate) c.t.view_is ∙ c.requires.own) (n.same.1 ∙ c.t.invariant.number) (c.tells.ensures.of_gate fast)
    (subst (λ (z : TableNet). c.name.result.pass.firsts ≤ 3 * depth (plan z.net) c.name.result.pass.number + z.net.width) (ap (λ (g : Gate). g.seats) c.self.view_is) n.accesses)
