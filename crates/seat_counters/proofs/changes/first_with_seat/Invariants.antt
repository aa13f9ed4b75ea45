use Rattle.std.proofs.Common.{◌≡◌, drop}
use Rattle.seat_counters.specs.Counts.{first_line, has_seat}
use Rattle.seat_counters.proofs.changes.first_with_seat.Given as goal

abbrev pub invariant-loop-i : goal.invariant-loop-i
invariant-loop-i l = first_line (has_seat l.rules l.client) (drop l.i l.rules.reserves) (drop l.i l.counts) ≡ first_line (has_seat l.rules l.client) l.rules.reserves l.counts
