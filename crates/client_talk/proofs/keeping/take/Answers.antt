use Rattle.client_talk.specs.Holding.{seat_line, seat_want}
use Rattle.client_talk.proofs.keeping.take.Goals as goal

pub returns : goal.returns
returns g c = c.ask_greeted.ensures (seat_line c.args.hold.now) (seat_want c.args.hold.now) c.seat-made.ensures
