use Rattle.std.proofs.Common.{◌≡◌, ◌≤◌, None, replicate, vec_capacity}
use Rattle.seat_rows.proofs.vacant_rows.Given as goal

abbrev pub invariant-loop : goal.invariant-loop
invariant-loop l = (l.rows.items ≡ replicate l.counter None) × (l.parties ≤ vec_capacity l.rows)
