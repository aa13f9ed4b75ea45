use Rattle.std.proofs.Common.{◌≡◌, ◌<◌, length}
use Rattle.kex_rows.proofs.tests.nets.first_wrong.Given as goal

abbrev pub invariant-loop-i : goal.invariant-loop-i
invariant-loop-i l = (l.world.net.parties ≡ 3) × (0 < length l.world.net.caps)
