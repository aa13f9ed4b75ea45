use Rattle.std.proofs.Common.{◌≡◌}
use Rattle.kex_rows.proofs.tests.machine.steps_of_three.Given as goal

abbrev pub invariant-loop-access : goal.invariant-loop-access
invariant-loop-access l = l.world.net.parties ≡ 4
