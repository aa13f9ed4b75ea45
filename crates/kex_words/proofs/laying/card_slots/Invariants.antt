use Rattle.std.proofs.Common.{◌≡◌, ◌≤◌, vec_len, vec_capacity, slice_get, Some, EachIndex}
use Rattle.kex_words.specs.Passes.{unused_card}
use Rattle.kex_words.proofs.laying.card_slots.Given as goal

abbrev pub invariant-loop-number : goal.invariant-loop-number
invariant-loop-number l = (vec_len l.slots ≡ l.number) × (l.fn.width ≤ vec_capacity l.slots)
    × EachIndex l.slots.items (λ i. slice_get l.slots.items i ≡ Some (Some (unused_card i)))
