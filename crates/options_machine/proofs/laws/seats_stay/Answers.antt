use Rattle.options_machine.proofs.Seats.{seats_stay}
use Rattle.options_machine.proofs.laws.seats_stay.Goals as goal

pub returns : goal.returns
returns c = seats_stay
