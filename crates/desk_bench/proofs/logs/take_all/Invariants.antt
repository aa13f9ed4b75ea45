use Rattle.std.proofs.Common.{◌≡◌}
use Rattle.desk_bench.proofs.logs.take_all.Given as goal

abbrev pub invariant-loop-look : goal.invariant-loop-look
invariant-loop-look g l = l.take.queue ≡ l.fn.take.queue
