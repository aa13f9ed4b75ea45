use Rattle.std.proofs.Common.{◌≡◌}
use Rattle.desk_seats.specs.Turns.{pass_in_turn}
use Rattle.kex_rows.proofs.tests.seatings.step_in.Given as goal

abbrev pub invariant-loop-step : goal.invariant-loop-step
invariant-loop-step g l = (pass_in_turn l.turn).table ≡ l.seats
