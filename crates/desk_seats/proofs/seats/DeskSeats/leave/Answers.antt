use Rattle.desk_seats.proofs.Comes.{leaves_got, leaves_goes, leaves_so}
use Rattle.desk_seats.proofs.seats.DeskSeats.leave.Goals as goal

pub returns-in-Gated-clause-got : goal.returns-in-Gated-clause-got
returns-in-Gated-clause-got c = leaves_got c.args.hold c.gated.result c.leave-in-Gated.result c.gated.ensures.same c.leave-in-Gated.ensures

pub returns-in-Gated-clause-goes : goal.returns-in-Gated-clause-goes
returns-in-Gated-clause-goes c = leaves_goes c.args.hold c.gated.result c.leave-in-Gated.result c.gated.ensures.same c.leave-in-Gated.ensures

pub returns-in-Gated-clause-leaves : goal.returns-in-Gated-clause-leaves
returns-in-Gated-clause-leaves c = leaves_so c.args.hold c.gated.result c.leave-in-Gated.result c.gated.ensures.same c.leave-in-Gated.ensures
