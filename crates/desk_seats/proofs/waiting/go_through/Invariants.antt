use Rattle.std.proofs.Common.{◌≡◌}
use Rattle.kex_gate.specs.Turns.{fast_in_turn, guest_in_turn, met_in_turn}
use Rattle.desk_seats.proofs.waiting.go_through.Given as goal

abbrev pub invariant-loop : goal.invariant-loop
invariant-loop g l = (guest_in_turn l.turn ≡ guest_in_turn l.fn.turn) × (fast_in_turn l.turn ≡ fast_in_turn l.fn.turn) × (met_in_turn l.turn ≡ met_in_turn l.fn.turn)
