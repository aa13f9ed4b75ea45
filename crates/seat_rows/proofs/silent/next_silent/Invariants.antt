use Rattle.std.proofs.Common.{◌≡◌, length}
use Rattle.seat_rows.specs.Beats.{due_marks}
use Rattle.seat_rows.specs.Rows.{AreMarked}
use Rattle.seat_rows.proofs.silent.next_silent.Given as goal

abbrev pub invariant-loop-party : goal.invariant-loop-party
invariant-loop-party l = record {
  long : length l.beats ≡ length l.rows;
  marked : AreMarked l.rows l.beats;
}

abbrev pub decreases-loop-party : goal.decreases-loop-party
decreases-loop-party l = due_marks l.over l.beats
