use Rattle.std.proofs.Common.{◌≡◌}
use Rattle.kex_rows.proofs.tests.nets.walk.Given as goal

abbrev pub invariant-loop-step : goal.invariant-loop-step
invariant-loop-step l = l.world.net ≡ l.fn.world.net
