use Rattle.std.proofs.Common.{◌≡◌, ◌++◌, take, drop}
use Rattle.seat_counters.specs.Counts.{is_charged, with_less}
use Rattle.seat_counters.proofs.changes.lower_charged.Given as goal

abbrev pub invariant-loop-i : goal.invariant-loop-i
invariant-loop-i l = record {
  whole : take l.i l.counts ++ with_less (is_charged l.charge) (drop l.i l.limits) (drop l.i l.counts) ≡ with_less (is_charged l.charge) l.limits l.fn.counts;
  later : drop l.i l.counts ≡ drop l.i l.fn.counts;
}
