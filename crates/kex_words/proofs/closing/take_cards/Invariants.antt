use Rattle.std.proofs.Common.{◌≡◌, ℕ, ◌<◌, ◌≤◌, true, false, vec_len, vec_capacity, slice_get, slice_index_or, Some}
use mathlib.Core.Option.{some}
use lib.ListN.{get_elem?}
use Rattle.std.specs.Slots.{slots_items, slots_filled, slots_len}
use Rattle.kex_words.specs.declared.card.Card.{Card}
use Rattle.kex_words.proofs.closing.take_cards.Given as goal

abbrev pub invariant-loop-s : goal.invariant-loop-s
invariant-loop-s l = (slots_items l.closed.slots ≡ slots_items l.initial.closed.slots) × (slots_len l.closed.slots ≡ slots_len l.initial.closed.slots)
    × ((k : ℕ) → k < l.s → slice_index_or (slots_filled l.closed.slots) k false ≡ false)
    × ((k : ℕ) → l.s ≤ k → k < l.fn.width → slice_index_or (slots_filled l.closed.slots) k false ≡ true)
    × (vec_len l.cards ≡ l.s) × (vec_capacity l.cards ≡ vec_capacity l.initial.cards)
    × ((k : ℕ) (c : Card) → k < l.s → get_elem? (slots_items l.initial.closed.slots) k ≡ some (Some c) → slice_get l.cards.items k ≡ Some c)
