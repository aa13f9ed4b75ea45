use Rattle.std.proofs.Common.{rules}
use Rattle.seat_rows.proofs.Marks.{timed_of_none}
use Rattle.seat_rows.proofs.beats.Beats.make.Goals as goal

pub invariant_of-result : goal.invariant_of-result
invariant_of-result c = timed_of_none c.in_ok-marks.marks.items c.in_ok-clock.clock c.args.parties (c.in_ok-marks.ensures.items_if_clones_equal (search rules)) c.in_ok-clock.ensures
