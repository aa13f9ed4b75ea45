use Rattle.desk_seats.proofs.Comes.{begins_gated}
use Rattle.desk_seats.proofs.seats.DeskSeats.begin.Goals as goal

pub returns-in-Gated-clause-begins : goal.returns-in-Gated-clause-begins
returns-in-Gated-clause-begins c =
    let b = c.begin-in-Gated.ensures in let o = c.gated.ensures in
    begins_gated c.args.out c.of_gated.result c.begin-in-Gated.result c.gated.result c.in-Gated.gate c.of_gated.ensures o.same o.own b.same b.met b.few b.many b.pass b.rests b.through
