use Rattle.std.proofs.Common.{◌≡◌}
use Rattle.daemon_run.proofs.auditing.audit.Given as goal

abbrev pub invariant-loop : goal.invariant-loop
invariant-loop g l = (l.logs.keepers ≡ l.initial.logs.keepers) × (l.logs.parties ≡ l.initial.logs.parties)
