-- Cards are taken out of their slots, one after another.
use Rattle.std.proofs.Common.{◌≡◌, ◌≢◌, ℕ, zero, suc, ◌+◌, ◌<◌, ◌≤◌, Bool, true, false, List, [], ◌∷◌, ◌++◌, length, get_or, set, slice_get, sym, refl, ap, ◌∙◌, ⊎_elim, arith, get_or-set_other, Option, Some}
use mathlib.Core.Option.{some, some-injective}
use lib.ListN.{get_elem?}
use Rattle.kex_core.proofs.Sums.{same_or}
use Rattle.kex_words.specs.declared.card.Card.{Card}
use Rattle.pass_roles.proofs.Members.{got_front, got_last}

emptied : (l : List Bool) (i : ℕ) → get_or (set l i false) i false ≡ false
emptied [] i = refl
emptied (b ∷ l) zero = refl
emptied (b ∷ l) (suc i) = emptied l i

pub empty_below : (old new : List Bool) (s : ℕ) → new ≡ set old s false → ((k : ℕ) → k < s → get_or old k false ≡ false) → (k : ℕ) → k < s + 1 → get_or new k false ≡ false
empty_below old new s e h k l = ap (λ (z : List Bool). get_or z k false) e ∙ ⊎_elim (λ (is : k ≡ s). ap (λ (j : ℕ). get_or (set old s false) j false) is ∙ emptied old s)
    (λ (o : k ≢ s). get_or-set_other old s k false false o ∙ h k (omega arith)) (same_or k s)

pub full_above : (old new : List Bool) (s n : ℕ) → new ≡ set old s false → ((k : ℕ) → s ≤ k → k < n → get_or old k false ≡ true) → (k : ℕ) → s + 1 ≤ k → k < n → get_or new k false ≡ true
full_above old new s n e h k low high = ap (λ (z : List Bool). get_or z k false) e ∙ (get_or-set_other old s k false false (λ is. omega arith) ∙ h k (omega arith) high)

-- the value that was taken is the slot's
pub it_is : (now old : List (Option Card)) (s : ℕ) (o : Option Card) (c : Card) → now ≡ old → get_elem? now s ≡ some o → get_elem? old s ≡ some (Some c) → o ≡ Some c
it_is now old s o c e value home = some-injective o (Some c) (sym value ∙ (ap (λ (l : List (Option Card)). get_elem? l s) e ∙ home))

pub collected : (now old : List (Option Card)) (cards : List Card) (s : ℕ) (o : Option Card) (card : Card) → length cards ≡ s → now ≡ old → get_elem? now s ≡ some o → o ≡ Some card
    → ((k : ℕ) (c : Card) → k < s → get_elem? old k ≡ some (Some c) → slice_get cards k ≡ Some c)
    → (k : ℕ) (c : Card) → k < s + 1 → get_elem? old k ≡ some (Some c) → slice_get (cards ++ card ∷ []) k ≡ Some c
collected now old cards s o card count e value is h k c l home = ⊎_elim
    (λ (here : k ≡ s). ap (slice_get (cards ++ card ∷ [])) (here ∙ sym count) ∙ (got_last cards card ∙ (sym is ∙ it_is now old s o c e value (ap (get_elem? old) (sym here) ∙ home))))
    (λ (other : k ≢ s). got_front cards (card ∷ []) k (omega arith) ∙ h k c (omega arith) home) (same_or k s)
