use Rattle.std.proofs.Common.{◌≡◌}
use Rattle.desk_rows.proofs.tests.locks.places_of.Given as goal

abbrev pub invariant-loop-place : goal.invariant-loop-place
invariant-loop-place g l = l.pass.lock ≡ l.lock.id
