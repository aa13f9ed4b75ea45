use Rattle.std.proofs.Common.{◌≡◌, ◌++◌, take, drop}
use Rattle.seat_counters.specs.Counts.{speaks_of, with_more}
use Rattle.seat_counters.proofs.changes.raise_matched.Given as goal

abbrev pub invariant-loop-i : goal.invariant-loop-i
invariant-loop-i l = record {
  whole : take l.i l.counts ++ with_more (speaks_of l.rules l.client) (drop l.i l.rules.maxes) (drop l.i l.counts) ≡ with_more (speaks_of l.rules l.client) l.rules.maxes l.fn.counts;
  later : drop l.i l.counts ≡ drop l.i l.fn.counts;
}
