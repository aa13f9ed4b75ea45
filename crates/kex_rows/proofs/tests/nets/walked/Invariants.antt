use Rattle.std.proofs.Common.{◌≡◌}
use Rattle.kex_rows.proofs.tests.nets.walked.Given as goal

abbrev pub invariant-loop-party : goal.invariant-loop-party
invariant-loop-party l = l.world.net ≡ l.initial.world.net
