use Rattle.std.proofs.Common.{◌≡◌, ◌≤◌, vec_len, vec_capacity}
use Rattle.linger_clock.proofs.spare.spares.Given as goal

abbrev pub invariant-loop : goal.invariant-loop
invariant-loop l = (vec_len l.spares ≡ l.counter) × (l.count ≤ vec_capacity l.spares)
