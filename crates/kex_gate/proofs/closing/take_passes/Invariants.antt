use Rattle.std.proofs.Common.{◌≡◌, ℕ, ◌+◌, ◌<◌, ◌≤◌, true, false, drop, length, slice_index_or}
use Rattle.std.specs.Slots.{slots_items, slots_filled, slots_len}
use Rattle.kex_words.specs.Passes.{times}
use Rattle.pass_roles.specs.Roles.{total}
use Rattle.kex_gate.specs.Steps.{slot_worth, slot_number}
use Rattle.kex_gate.proofs.closing.take_passes.Given as goal

abbrev pub invariant-loop-i : goal.invariant-loop-i
invariant-loop-i l = (slots_items l.closed.slots ≡ slots_items l.initial.closed.slots) × (slots_len l.closed.slots ≡ slots_len l.initial.closed.slots)
    × ((k : ℕ) → k < l.i → slice_index_or (slots_filled l.closed.slots) k false ≡ false)
    × ((k : ℕ) → l.i ≤ k → k < l.fn.width → slice_index_or (slots_filled l.closed.slots) k false ≡ true)
    × (l.gathering.table ≡ l.seats) × (length l.gathering.numbers ≡ length l.initial.gathering.numbers + l.i)
    × ((q : ℕ) → times q l.gathering.numbers + total (slot_number q) (drop l.i (slots_items l.initial.closed.slots)) ≡ times q l.initial.gathering.numbers + total (slot_number q) (slots_items l.initial.closed.slots))
    × ((s : ℕ) → times s l.gathering.got + total (slot_worth s) (drop l.i (slots_items l.initial.closed.slots)) ≡ times s l.initial.gathering.got + total (slot_worth s) (slots_items l.initial.closed.slots))
