use Rattle.std.proofs.Common.{◌≡◌}
use Rattle.daemon_run.proofs.auditing.sweep.Given as goal

abbrev pub invariant-loop-round : goal.invariant-loop-round
invariant-loop-round g l = (l.logs.keepers ≡ l.fn.logs.keepers) × (l.logs.parties ≡ l.fn.logs.parties)
