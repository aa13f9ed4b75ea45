use Rattle.std.proofs.Common.{◌≡◌, ◌+◌, ◌≤◌, length, map, sum_by}
use Rattle.licence_office.proofs.logs.take_each.Given as goal
use Rattle.licence_office.specs.Rooms.{AreTaken, taken_at}

abbrev pub invariant-loop-end : goal.invariant-loop-end
invariant-loop-end g l = record {
  taken : AreTaken l.initial.ends l.ends;
  count : sum_by length (map taken_at l.ends) ≡ sum_by length (map taken_at l.initial.ends) + l.count;
  within : l.count ≤ l.end-index;
}
