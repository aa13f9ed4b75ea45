use Rattle.kex_core.specs.Shapes.{plan}
use Rattle.kex_words.specs.Sorts.{pass_in_back}
use Rattle.seat_names.specs.Ways.{back_at}
use Rattle.seat_names.proofs.Backing.{Backing}
use Rattle.seat_names.proofs.seats.Seats.leave.Given as goal

abbrev pub invariant-loop-back : goal.invariant-loop-back
invariant-loop-back l = Backing l.self l.fn.hold.pass l.back

abbrev pub decreases-loop-back : goal.decreases-loop-back
decreases-loop-back l = back_at (plan l.self.net) l.fn.hold.pass.number (pass_in_back l.back).place
