use Rattle.std.proofs.Common.{◌≡◌}
use Rattle.kex_rows.proofs.tests.gates.come_and_go.Given as goal

abbrev pub invariant-loop-round : goal.invariant-loop-round
invariant-loop-round g l = l.out.gate ≡ l.gate
