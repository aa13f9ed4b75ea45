-- How gaps between entries close.
use Rattle.std.proofs.Common.{◌≡◌, ℕ, ◌+◌, ◌-◌, ◌<◌, ◌≤◌, List, [], ◌∷◌, Option, None, Some, length, get_or, set, refl, ap, sym, arith, suc, zero, subst}
use Rattle.options_machine.specs.declared.rows.Lingerer.{Lingerer}
use Rattle.linger_table.specs.Slots.{HasNoneFrom, IsPacked, entries_in}

-- one more empty slot
packed_more : (full empty : ℕ) (slots : List (Option Lingerer)) (at : ℕ) → IsPacked full empty slots → at ≡ full + empty → at < length slots → get_or slots at None ≡ None → IsPacked full (suc empty) slots
packed_more full empty [] at p e less none = absurd (omega (arith, less))
packed_more zero zero (None ∷ slots) at p e less none = tt
packed_more zero zero (Some l ∷ slots) zero p e less none = let never : Some l ≡ None = none in absurd (cc)
packed_more zero zero (Some l ∷ slots) (suc at) p e less none = absurd (omega (arith, e))
packed_more zero (suc empty) (None ∷ slots) zero p e less none = absurd (omega (arith, e))
packed_more zero (suc empty) (None ∷ slots) (suc at) p e less none = packed_more zero empty slots at p (omega (arith, e)) (omega (arith, less)) none
packed_more zero (suc empty) (Some l ∷ slots) at p e less none = absurd p
packed_more (suc full) empty (None ∷ slots) at p e less none = absurd p
packed_more (suc full) empty (Some l ∷ slots) zero p e less none = absurd (omega (arith, e))
packed_more (suc full) empty (Some l ∷ slots) (suc at) p e less none = packed_more full empty slots at p (omega (arith, e)) (omega (arith, less)) none

-- one more entry, in front of which no slot is empty
packed_full : (full : ℕ) (slots : List (Option Lingerer)) (l : Lingerer) → IsPacked full 0 slots → get_or slots full None ≡ Some l → IsPacked (suc full) 0 slots
packed_full zero [] l p e = let never : None ≡ Some l = e in absurd (cc)
packed_full zero (None ∷ slots) l p e = let never : None ≡ Some l = e in absurd (cc)
packed_full zero (Some m ∷ slots) l p e = tt
packed_full (suc full) [] l p e = absurd p
packed_full (suc full) (None ∷ slots) l p e = absurd p
packed_full (suc full) (Some m ∷ slots) l p e = packed_full full slots l p e

-- the first empty slot is empty
packed_empty : (full empty : ℕ) (slots : List (Option Lingerer)) → IsPacked full (suc empty) slots → get_or slots full None ≡ None
packed_empty zero empty [] p = absurd p
packed_empty zero empty (None ∷ slots) p = refl
packed_empty zero empty (Some l ∷ slots) p = absurd p
packed_empty (suc full) empty [] p = absurd p
packed_empty (suc full) empty (None ∷ slots) p = absurd p
packed_empty (suc full) empty (Some l ∷ slots) p = packed_empty full empty slots p

-- an entry behind empty slots goes to the first of them

pair_first : (empty : ℕ) (slots : List (Option Lingerer)) (at : ℕ) (l : Lingerer) → IsPacked 0 empty slots → at ≡ empty → get_or slots at None ≡ Some l
    → IsPacked 0 (suc empty) (set slots at None) × (l ∷ entries_in (set slots at None) ≡ entries_in slots)
pair_first empty [] at l p e here = let never : None ≡ Some l = here in absurd (cc)
pair_first zero (None ∷ slots) zero l p e here = let never : None ≡ Some l = here in absurd (cc)
pair_first zero (Some m ∷ slots) zero l p e here =
    let both : Some m ≡ Some l = here in
    let same : l ≡ m = cc in
    (tt, ap (λ (x : Lingerer). x ∷ entries_in slots) same)
pair_first zero (s ∷ slots) (suc at) l p e here = absurd (omega (arith, e))
pair_first (suc empty) (s ∷ slots) zero l p e here = absurd (omega (arith, e))
pair_first (suc empty) (None ∷ slots) (suc at) l p e here = pair_first empty slots at l p (omega (arith, e)) here
pair_first (suc empty) (Some m ∷ slots) (suc at) l p e here = absurd p

pair_moved : (full empty : ℕ) (slots : List (Option Lingerer)) (at : ℕ) (l : Lingerer) → IsPacked full (suc empty) slots → at ≡ full + suc empty → get_or slots at None ≡ Some l
    → IsPacked (suc full) (suc empty) (set (set slots at None) full (Some l)) × (entries_in (set (set slots at None) full (Some l)) ≡ entries_in slots)
pair_moved full empty [] at l p e here = let never : None ≡ Some l = here in absurd (cc)
pair_moved full empty (s ∷ slots) zero l p e here = absurd (omega (arith, e))
pair_moved zero empty (None ∷ slots) (suc at) l p e here = pair_first empty slots at l p (omega (arith, e)) here
pair_moved zero empty (Some m ∷ slots) (suc at) l p e here = absurd p
pair_moved (suc full) empty (None ∷ slots) (suc at) l p e here = absurd p
pair_moved (suc full) empty (Some m ∷ slots) (suc at) l p e here =
    let (packed, same) = pair_moved full empty slots at l p (omega (arith, e)) here in
    (packed, ap (λ (xs : List Lingerer). m ∷ xs) same)

-- the same by the two places of a loop

pub stays_packed : (to from : ℕ) (slots : List (Option Lingerer)) → to ≤ from → from < length slots → IsPacked to (from - to) slots → get_or slots from None ≡ None → IsPacked to (from + 1 - to) slots
stays_packed to from slots behind less p none =
    subst (λ (n : ℕ). IsPacked to n slots) (omega arith) (packed_more to (from - to) slots from p (omega arith) less none)

pub grows_packed : (to from : ℕ) (slots : List (Option Lingerer)) (l : Lingerer) → to ≡ from → IsPacked to (from - to) slots → get_or slots from None ≡ Some l → IsPacked (to + 1) (from + 1 - (to + 1)) slots
grows_packed to from slots l same p here =
    let now : IsPacked to 0 slots = subst (λ (n : ℕ). IsPacked to n slots) (omega arith) p in
    let more : IsPacked (suc to) 0 slots = packed_full to slots l now (subst (λ (n : ℕ). get_or slots n None ≡ Some l) (sym same) here) in
    let gap : 0 ≡ from + 1 - (to + 1) = omega arith in
    let next : suc to ≡ to + 1 = omega arith in
    subst (λ (n : ℕ). IsPacked n (from + 1 - (to + 1)) slots) next (subst (λ (n : ℕ). IsPacked (suc to) n slots) gap more)

pub first_empty : (to from : ℕ) (slots : List (Option Lingerer)) → to < from → IsPacked to (from - to) slots → get_or slots to None ≡ None
first_empty to from slots less p = packed_empty to (from - to - 1) slots (subst (λ (n : ℕ). IsPacked to n slots) (omega arith) p)

pub moves_packed : (to from : ℕ) (slots : List (Option Lingerer)) (l : Lingerer) → to < from → IsPacked to (from - to) slots → get_or slots from None ≡ Some l
    → IsPacked (to + 1) (from + 1 - (to + 1)) (set (set slots from None) to (Some l)) × (entries_in (set (set slots from None) to (Some l)) ≡ entries_in slots)
moves_packed to from slots l less p here =
    let gap : from - to ≡ suc (from - to - 1) = omega arith in
    let (packed, same) = pair_moved to (from - to - 1) slots from l (subst (λ (n : ℕ). IsPacked to n slots) gap p) (omega arith) here in
    let after : suc (from - to - 1) ≡ from + 1 - (to + 1) = omega arith in
    let next : suc to ≡ to + 1 = omega arith in
    let new : List (Option Lingerer) = set (set slots from None) to (Some l) in
    (subst (λ (n : ℕ). IsPacked n (from + 1 - (to + 1)) new) next (subst (λ (n : ℕ). IsPacked (suc to) n new) after packed), same)

-- at the end

ends_empty : (full empty : ℕ) (slots : List (Option Lingerer)) (at : ℕ) → IsPacked full empty slots → full + empty ≡ length slots → full ≤ at → get_or slots at None ≡ None
ends_empty full empty [] at p e le = refl
ends_empty zero zero (s ∷ slots) at p e le = absurd (omega (arith, e))
ends_empty zero (suc empty) (None ∷ slots) zero p e le = refl
ends_empty zero (suc empty) (None ∷ slots) (suc at) p e le = ends_empty zero empty slots at p (omega (arith, e)) (omega arith)
ends_empty zero (suc empty) (Some l ∷ slots) at p e le = absurd p
ends_empty (suc full) empty (None ∷ slots) at p e le = absurd p
ends_empty (suc full) empty (Some l ∷ slots) zero p e le = absurd (omega (arith, le))
ends_empty (suc full) empty (Some l ∷ slots) (suc at) p e le = ends_empty full empty slots at p (omega (arith, e)) (omega (arith, le))

pub ends_packed : (to from : ℕ) (slots : List (Option Lingerer)) → to ≤ from → from ≡ length slots → IsPacked to (from - to) slots → HasNoneFrom to slots
ends_packed to from slots behind e p = λ at le. ends_empty to (from - to) slots at p (omega (arith, e)) le

count_full : (full empty : ℕ) (slots : List (Option Lingerer)) → IsPacked full empty slots → full + empty ≡ length slots → length (entries_in slots) ≡ full
count_full zero zero [] p e = refl
count_full zero (suc empty) [] p e = absurd p
count_full (suc full) empty [] p e = absurd p
count_full zero zero (s ∷ slots) p e = absurd (omega (arith, e))
count_full zero (suc empty) (None ∷ slots) p e = count_full zero empty slots p (omega (arith, e))
count_full zero (suc empty) (Some l ∷ slots) p e = absurd p
count_full (suc full) empty (None ∷ slots) p e = absurd p
count_full (suc full) empty (Some l ∷ slots) p e = omega (arith, count_full full empty slots p (omega (arith, e)))

pub counts_packed : (to from : ℕ) (slots : List (Option Lingerer)) → to ≤ from → from ≡ length slots → IsPacked to (from - to) slots → length (entries_in slots) ≡ to
counts_packed to from slots behind e p = count_full to (from - to) slots p (omega (arith, e))
