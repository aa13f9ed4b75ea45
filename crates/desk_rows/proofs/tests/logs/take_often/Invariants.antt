use Rattle.std.proofs.Common.{◌≡◌}
use Rattle.desk_rows.proofs.tests.logs.take_often.Given as goal

abbrev pub invariant-loop : goal.invariant-loop
invariant-loop g l = l.take.queue ≡ l.fn.take.queue
