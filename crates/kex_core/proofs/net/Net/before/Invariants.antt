use Rattle.std.proofs.Common.{◌≡◌, ◌≢◌, ◌-◌, length}
use Rattle.kex_core.specs.Nets.{visits, walk, on_path, before}
use Rattle.kex_core.specs.Shapes.{plan}
use Rattle.kex_core.proofs.net.Net.before.Given as goal

abbrev pub invariant-loop-step : goal.invariant-loop-step
invariant-loop-step l = (visits (plan l.self).next (length l.self.caps - l._step) l.i l.j ≡ on_path (plan l.self) l.p l.j)
    × (walk (plan l.self).next (length l.self.caps - l._step) l.i l.j ≡ before (plan l.self) l.p l.j) × (l.i ≢ l.j)
