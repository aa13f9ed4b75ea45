use Rattle.std.proofs.Common.{◌≡◌}
use Rattle.turn_lock.proofs.turns.Turns.draw.Given as goal

abbrev pub invariant-loop-round : goal.invariant-loop-round
invariant-loop-round g l = (l.seat.table_id ≡ l.fn.seat.table_id) × (l.seat.me ≡ l.fn.seat.me)
