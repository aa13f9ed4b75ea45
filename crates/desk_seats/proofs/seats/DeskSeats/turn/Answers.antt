use Rattle.std.proofs.Common.{sym, subst}
use Rattle.desk_seats.specs.declared.turns.SeatTurn.{SeatTurn}
use Rattle.desk_seats.specs.Turns.{Goes, pass_in_turn}
use Rattle.desk_seats.proofs.Comes.{turn_goes}
use Rattle.desk_seats.proofs.seats.DeskSeats.turn.Goals as goal

pub returns-in-Plain-clause-goes : goal.returns-in-Plain-clause-goes
returns-in-Plain-clause-goes c =
    let t = c.turn.ensures in
    subst (λ (z : SeatTurn). Goes c.args.e (pass_in_turn z)) (sym c.of_plain.ensures) (turn_goes c.args.e c.plain.result c.turn.result c.plain.ensures.same t.same.0 t.same.1 t.turned)
