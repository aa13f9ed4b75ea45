use Rattle.std.proofs.Common.{ℕ, ◌<◌, ◌≤◌, length}
use Rattle.options_machine.specs.State.{set_at}
use Rattle.seat_counters.proofs.tally.most_reserves.Given as goal

abbrev pub invariant-loop-rules : goal.invariant-loop-rules
invariant-loop-rules l = (k : ℕ) → k < l.rules-index → length (set_at l.sets k).reserves ≤ l.most
