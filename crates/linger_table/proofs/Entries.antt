-- The entries in slots, as slots change.
use Rattle.std.proofs.Common.{◌≡◌, ℕ, ◌+◌, ◌<◌, ◌≤◌, Bool, true, false, cond, List, [], ◌∷◌, ◌++◌, Option, None, Some, length, get_or, set, take, filter, refl, ap, sym, ◌∙◌, arith, suc, zero, subst, length-append}
use Rattle.std.specs.List.{count_by}
use Rattle.std.specs.Prelude.{IsSome}
use Rattle.std.proofs.lemmas.List.Elements.{filter-append}
use Rattle.options_machine.specs.declared.rows.Lingerer.{Lingerer}
use Rattle.options_machine.proofs.Counts.{count-append, count-cons}
use Rattle.linger_table.specs.Slots.{HasEntry, HasNoneFrom, entries_in}
use Rattle.linger_table.specs.Table.{TakesOneOut}

pub some_is : (o : Option Lingerer) → IsSome o → (l : Lingerer) × (o ≡ Some l)
some_is None h = let never : false ≡ true = h in absurd (cc)
some_is (Some l) h = (l, refl)

pub has_some : (slots : List (Option Lingerer)) (at : ℕ) (l : Lingerer) → get_or slots at None ≡ Some l → HasEntry slots at
has_some slots at l e = subst (λ (o : Option Lingerer). IsSome o) (sym e) refl

pub slot_within : (slots : List (Option Lingerer)) (at : ℕ) (l : Lingerer) → get_or slots at None ≡ Some l → at < length slots
slot_within [] at l e = let never : None ≡ Some l = e in absurd (cc)
slot_within (s ∷ slots) zero l e = omega arith
slot_within (s ∷ slots) (suc at) l e = omega (arith, slot_within slots at l e)

-- a slot that is read is the one that is there
pub slot_read : (slots : List (Option Lingerer)) (at : ℕ) (o : Option Lingerer) → at < length slots → o ≡ get_or slots at o → get_or slots at None ≡ o
slot_read [] at o h e = absurd (omega (arith, h))
slot_read (s ∷ slots) zero o h e = sym e
slot_read (s ∷ slots) (suc at) o h e = slot_read slots at o (omega (arith, h)) e

-- one more slot at the end

pub entries-grown : (slots : List (Option Lingerer)) → entries_in (slots ++ None ∷ []) ≡ entries_in slots
entries-grown [] = refl
entries-grown (None ∷ slots) = entries-grown slots
entries-grown (Some m ∷ slots) = ap (λ (xs : List Lingerer). m ∷ xs) (entries-grown slots)

pub get_or-grown : (slots : List (Option Lingerer)) (at : ℕ) → get_or (slots ++ None ∷ []) at None ≡ get_or slots at None
get_or-grown [] zero = refl
get_or-grown [] (suc at) = refl
get_or-grown (s ∷ slots) zero = refl
get_or-grown (s ∷ slots) (suc at) = get_or-grown slots at

pub empty_at_end : (slots : List (Option Lingerer)) (at : ℕ) → length slots ≤ at → get_or slots at None ≡ None
empty_at_end [] at h = refl
empty_at_end (s ∷ slots) zero h = absurd (omega (arith, h))
empty_at_end (s ∷ slots) (suc at) h = empty_at_end slots at (omega (arith, h))

pub entries-pushed : (slots : List (Option Lingerer)) (l : Lingerer) (at : ℕ) → at ≡ length slots → entries_in (set (slots ++ None ∷ []) at (Some l)) ≡ entries_in slots ++ l ∷ []
entries-pushed [] l zero e = refl
entries-pushed [] l (suc at) e = absurd (omega (arith, e))
entries-pushed (s ∷ slots) l zero e = absurd (omega (arith, e))
entries-pushed (None ∷ slots) l (suc at) e = entries-pushed slots l at (omega (arith, e))
entries-pushed (Some m ∷ slots) l (suc at) e = ap (λ (xs : List Lingerer). m ∷ xs) (entries-pushed slots l at (omega (arith, e)))

-- a slot that is filled

pub length-filled : (slots : List (Option Lingerer)) (at : ℕ) (l : Lingerer) → get_or slots at None ≡ None → at < length slots → length (entries_in (set slots at (Some l))) ≡ length (entries_in slots) + 1
length-filled [] at l e h = absurd (omega (arith, h))
length-filled (None ∷ slots) zero l e h = omega arith
length-filled (Some m ∷ slots) zero l e h = let never : Some m ≡ None = e in absurd (cc)
length-filled (None ∷ slots) (suc at) l e h = length-filled slots at l e (omega (arith, h))
length-filled (Some m ∷ slots) (suc at) l e h = omega (arith, length-filled slots at l e (omega (arith, h)))

-- another entry in a slot

pub length-changed : (slots : List (Option Lingerer)) (at : ℕ) (l m : Lingerer) → get_or slots at None ≡ Some l → length (entries_in (set slots at (Some m))) ≡ length (entries_in slots)
length-changed [] at l m e = let never : None ≡ Some l = e in absurd (cc)
length-changed (None ∷ slots) zero l m e = let never : None ≡ Some l = e in absurd (cc)
length-changed (Some n ∷ slots) zero l m e = omega arith
length-changed (None ∷ slots) (suc at) l m e = length-changed slots at l m e
length-changed (Some n ∷ slots) (suc at) l m e = omega (arith, length-changed slots at l m e)

-- a slot that is emptied

pub taken_out : (slots : List (Option Lingerer)) (at : ℕ) (l : Lingerer) → get_or slots at None ≡ Some l → TakesOneOut l (entries_in slots) (entries_in (set slots at None))
taken_out [] at l e = let never : None ≡ Some l = e in absurd (cc)
taken_out (None ∷ slots) zero l e = let never : None ≡ Some l = e in absurd (cc)
taken_out (Some m ∷ slots) zero l e =
    let both : Some m ≡ Some l = e in
    let same : m ≡ l = cc in
    ([], (entries_in slots, (ap (λ (x : Lingerer). x ∷ entries_in slots) same, refl)))
taken_out (None ∷ slots) (suc at) l e = taken_out slots at l e
taken_out (Some m ∷ slots) (suc at) l e =
    let (front, rest) = taken_out slots at l e in
    let (back, both) = rest in
    (m ∷ front, (back, (ap (λ (xs : List Lingerer). m ∷ xs) both.0, ap (λ (xs : List Lingerer). m ∷ xs) both.1)))

-- what is so of a list without one entry

pub length-without_one : (l : Lingerer) (old new : List Lingerer) → TakesOneOut l old new → length new + 1 ≡ length old
length-without_one l old new (front, rest) =
    let (back, both) = rest in
    omega (arith, ap length both.0, ap length both.1, length-append front (l ∷ back), length-append front back)

pub count-without_one : (f : Lingerer → Bool) (l : Lingerer) (old new : List Lingerer) → TakesOneOut l old new → count_by f new + cond (f l) 1 0 ≡ count_by f old
count-without_one f l old new (front, rest) =
    let (back, both) = rest in
    omega (arith, ap (count_by f) both.0, ap (count_by f) both.1, count-append f front (l ∷ back), count-append f front back, count-cons f l back)

pub filter-without_one : (p : Lingerer → Bool) (l : Lingerer) (old new : List Lingerer) → TakesOneOut l old new → p l ≡ false → filter p new ≡ filter p old
filter-without_one p l old new (front, rest) fails =
    let (back, both) = rest in
    let skipped : filter p (l ∷ back) ≡ filter p back = rw fails refl in
    ap (filter p) both.1 ∙ filter-append p front back ∙ ap (λ (xs : List Lingerer). filter p front ++ xs) (sym skipped) ∙ sym (filter-append p front (l ∷ back)) ∙ ap (filter p) (sym both.0)

-- slots without those behind the last entry

pub entries-taken : (slots : List (Option Lingerer)) (to : ℕ) → HasNoneFrom to slots → entries_in (take to slots) ≡ entries_in slots
entries-taken [] zero h = refl
entries-taken [] (suc to) h = refl
entries-taken (None ∷ slots) zero h = entries-taken slots zero (λ at le. h (suc at) (omega arith))
entries-taken (Some l ∷ slots) zero h = let never : Some l ≡ None = h 0 (omega arith) in absurd (cc)
entries-taken (None ∷ slots) (suc to) h = entries-taken slots to (λ at le. h (suc at) (omega (arith, le)))
entries-taken (Some l ∷ slots) (suc to) h = ap (λ (xs : List Lingerer). l ∷ xs) (entries-taken slots to (λ at le. h (suc at) (omega (arith, le))))

pub get_or-taken : (slots : List (Option Lingerer)) (to at : ℕ) → HasNoneFrom to slots → get_or (take to slots) at None ≡ get_or slots at None
get_or-taken [] zero at h = refl
get_or-taken [] (suc to) at h = refl
get_or-taken (s ∷ slots) zero at h = sym (h at (omega arith))
get_or-taken (s ∷ slots) (suc to) zero h = refl
get_or-taken (s ∷ slots) (suc to) (suc at) h = get_or-taken slots to at (λ k le. h (suc k) (omega (arith, le)))
