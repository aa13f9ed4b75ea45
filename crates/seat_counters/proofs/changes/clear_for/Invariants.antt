use Rattle.std.proofs.Common.{◌≡◌, map, take, vec_capacity}
use Rattle.options_machine.specs.declared.limits.Limit.{Limit}
use Rattle.seat_counters.proofs.changes.clear_for.Given as goal

abbrev pub invariant-loop-i : goal.invariant-loop-i
invariant-loop-i l = record {
  counts : l.counts.items ≡ map (λ (m : Limit). 0) (take l._i l.limits);
  room : vec_capacity l.counts ≡ vec_capacity l.fn.counts;
}
