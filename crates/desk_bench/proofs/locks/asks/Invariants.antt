use Rattle.std.proofs.Common.{◌≡◌}
use Rattle.desk_bench.proofs.locks.asks.Given as goal

abbrev pub invariant-loop-round : goal.invariant-loop-round
invariant-loop-round g l = (l.pass.lock ≡ l.turns.id) × (l.pass.lock ≡ l.fn.pass.lock) × (l.party ≡ l.pass.number)
