use Rattle.seat_names.specs.Turns.{pass_in_turn}
use Rattle.seat_names.proofs.Coming.{Coming}
use Rattle.seat_names.proofs.seats.Seats.go_on.Given as goal

abbrev pub invariant-loop : goal.invariant-loop
invariant-loop g l = Coming l.self (pass_in_turn l.fn.turn) l.turn
