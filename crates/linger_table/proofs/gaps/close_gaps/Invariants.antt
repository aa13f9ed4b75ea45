use Rattle.std.proofs.Common.{◌≡◌, ◌-◌, ◌≤◌, length}
use Rattle.linger_table.specs.Slots.{IsPacked, entries_in}
use Rattle.linger_table.proofs.gaps.close_gaps.Given as goal

abbrev pub invariant-loop-from : goal.invariant-loop-from
invariant-loop-from l = record {
  behind : l.to ≤ l.from;
  packed : IsPacked l.to (l.from - l.to) l.slots.slots;
  entries : entries_in l.slots.slots ≡ entries_in l.fn.slots.slots;
  room : l.slots.room ≡ l.fn.slots.room;
  count : length l.slots.slots ≡ length l.fn.slots.slots;
}
