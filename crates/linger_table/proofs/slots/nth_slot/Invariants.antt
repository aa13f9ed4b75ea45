use Rattle.std.proofs.Common.{◌≡◌, ◌+◌, length, take}
use Rattle.linger_table.specs.Slots.{entries_in}
use Rattle.linger_table.proofs.slots.nth_slot.Given as goal

abbrev pub invariant-loop-at : goal.invariant-loop-at
invariant-loop-at l = l.left + length (entries_in (take l.at l.slots)) ≡ l.place
