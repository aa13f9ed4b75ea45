use Rattle.std.proofs.Common.{◌≡◌}
use Rattle.desk_bench.proofs.logs.push_all.Given as goal

abbrev pub invariant-loop-place : goal.invariant-loop-place
invariant-loop-place g l = l.push.queue ≡ l.fn.push.queue
