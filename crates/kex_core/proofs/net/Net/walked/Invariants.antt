use Rattle.std.proofs.Common.{◌-◌, length}
use Rattle.kex_core.specs.Nets.{before}
use Rattle.kex_core.specs.Shapes.{plan}
use Rattle.kex_core.proofs.Walks.{Walking}
use Rattle.kex_core.proofs.net.Net.walked.Given as goal

abbrev pub invariant-loop-step : goal.invariant-loop-step
invariant-loop-step l = Walking (plan l.self).next (length l.self.caps - l._step) l.i l.j (before (plan l.self) l.p l.j)
