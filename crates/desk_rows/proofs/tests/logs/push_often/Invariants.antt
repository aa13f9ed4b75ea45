use Rattle.std.proofs.Common.{◌≡◌}
use Rattle.desk_rows.proofs.tests.logs.push_often.Given as goal

abbrev pub invariant-loop-moment : goal.invariant-loop-moment
invariant-loop-moment g l = l.push.queue ≡ l.fn.push.queue
