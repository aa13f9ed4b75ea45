use Rattle.std.proofs.Common.{◌≡◌, drop}
use Rattle.seat_counters.specs.Counts.{first_line, is_used_up}
use Rattle.seat_counters.proofs.changes.first_used_up.Given as goal

abbrev pub invariant-loop-i : goal.invariant-loop-i
invariant-loop-i l = first_line (is_used_up l.rules l.client) (drop l.i l.rules.maxes) (drop l.i l.counts) ≡ first_line (is_used_up l.rules l.client) l.rules.maxes l.counts
