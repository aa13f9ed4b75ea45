-- What the passes of each kind are.
use Rattle.desk_seats.specs.declared.seats.SeatsKind.{SeatsKind}
use Rattle.desk_seats.specs.declared.seats.SeatsKind.TheVariants as seats
use Rattle.desk_seats.specs.declared.passes.OutKind.{OutKind}
use Rattle.desk_seats.specs.declared.passes.OutKind.TheVariants as out
use Rattle.desk_seats.specs.declared.passes.EnteringKind.{EnteringKind}
use Rattle.desk_seats.specs.declared.passes.EnteringKind.TheVariants as entering
use Rattle.desk_seats.specs.declared.passes.ThroughKind.{ThroughKind}
use Rattle.desk_seats.specs.declared.passes.ThroughKind.TheVariants as through
use Rattle.desk_seats.specs.declared.passes.HoldKind.{HoldKind}
use Rattle.desk_seats.specs.declared.passes.HoldKind.TheVariants as hold
use Rattle.seat_names.specs.Turns.{pass_in_through}
use Rattle.desk_seats.specs.Views.{SeatsView, gated_seats, plain_seats}
use Rattle.desk_seats.specs.Passes.{SeatHeld, SeatPass, gate_held, guest_pass, plain_held, plain_pass, way_pass, way_through}

abbrev pub seats_in : SeatsKind → SeatsView
seats_in (seats.Plain t) = plain_seats t
seats_in (seats.Gated g) = gated_seats g

abbrev pub out_in : OutKind → SeatPass
out_in (out.Plain p) = plain_pass p
out_in (out.Gated g) = guest_pass g

abbrev pub entering_in : EnteringKind → SeatPass
entering_in (entering.Plain p) = plain_pass p
entering_in (entering.Gated w) = way_pass w

abbrev pub through_in : ThroughKind → SeatPass
through_in (through.Plain t) = plain_pass (pass_in_through t)
through_in (through.Gated t) = way_pass (way_through t)

abbrev pub held_in : HoldKind → SeatHeld
held_in (hold.Plain h) = plain_held h
held_in (hold.Gated h) = gate_held h
