-- The card in a seat's hand.
use Rattle.std.proofs.Common.{◌≡◌, ℕ, ◌∷◌, sym, ap, ◌∙◌, Option, Some}
use mathlib.Core.Option.{none}
use Rattle.atomic_table.specs.Table.{Step, step, rest}
use Rattle.kex_core.specs.declared.place.Place.TheVariants.{Named}
use Rattle.kex_words.specs.declared.card.Card.{Card}
use Rattle.kex_words.specs.Steps.{Self, name_at, took}

-- what a step tells does not depend on its numbers
abbrev nothing : Step (Option Card)
nothing = step 0 0 0 0 none

-- the card that was taken is in hand
pub in_hand : (m m' : Self) (n s : ℕ) → m.0.place ≡ Named s → took nothing m n m' → (x : Option Card) × (m'.1 ≡ (s, x) ∷ rest m'.1)
in_hand m m' n s at t = let h : m'.1 ≡ (name_at m.0.place, Some t.1.0) ∷ m.1 = ap (λ (z : Self). z.1) t.1.2 in
    (Some t.1.0, h ∙ (λ i. (ap name_at at i, Some t.1.0) ∷ sym (ap rest h) i))
