-- The slot of an entry by its place.
use Rattle.std.proofs.Common.{◌≡◌, ◌≢◌, ℕ, ◌+◌, ◌-◌, ◌<◌, ◌≤◌, List, [], ◌∷◌, Option, None, Some, length, get_or, set, take, slice_get, refl, ap, sym, ◌∙◌, arith, suc, zero, subst}
use Rattle.options_machine.specs.declared.rows.Lingerer.{Lingerer}
use Rattle.linger_table.specs.Slots.{entries_in, slot_of}

-- there are no more entries than slots
pub entries_le : (slots : List (Option Lingerer)) → length (entries_in slots) ≤ length slots
entries_le [] = omega arith
entries_le (None ∷ slots) = omega (arith, entries_le slots)
entries_le (Some l ∷ slots) = omega (arith, entries_le slots)

-- the slot has the entry at the place
pub slot_of-entry : (slots : List (Option Lingerer)) (place : ℕ) → get_or slots (slot_of slots place) None ≡ slice_get (entries_in slots) place
slot_of-entry [] place = refl
slot_of-entry (None ∷ slots) place = slot_of-entry slots place
slot_of-entry (Some l ∷ slots) zero = refl
slot_of-entry (Some l ∷ slots) (suc place) = slot_of-entry slots place

-- another entry there is one at the place
pub entries-changed : (slots : List (Option Lingerer)) (place : ℕ) (m : Lingerer) → place < length (entries_in slots) → entries_in (set slots (slot_of slots place) (Some m)) ≡ set (entries_in slots) place m
entries-changed [] place m h = absurd (omega (arith, h))
entries-changed (None ∷ slots) place m h = entries-changed slots place m h
entries-changed (Some l ∷ slots) zero m h = refl
entries-changed (Some l ∷ slots) (suc place) m h = ap (λ (xs : List Lingerer). l ∷ xs) (entries-changed slots place m (omega (arith, h)))

pub entry_there : (entries : List Lingerer) (place : ℕ) → place < length entries → (l : Lingerer) × (slice_get entries place ≡ Some l)
entry_there [] place h = absurd (omega (arith, h))
entry_there (l ∷ entries) zero h = (l, refl)
entry_there (l ∷ entries) (suc place) h = entry_there entries place (omega (arith, h))

pub nothing_there : (entries : List Lingerer) (place : ℕ) → length entries ≤ place → slice_get entries place ≡ None
nothing_there [] place h = refl
nothing_there (l ∷ entries) zero h = absurd (omega (arith, h))
nothing_there (l ∷ entries) (suc place) h = nothing_there entries place (omega (arith, h))

-- without empty slots they are the same
pub slot_of-whole : (slots : List (Option Lingerer)) (place : ℕ) → length (entries_in slots) ≡ length slots → place < length (entries_in slots) → slot_of slots place ≡ place
slot_of-whole [] place e h = absurd (omega (arith, h))
slot_of-whole (None ∷ slots) place e h = absurd (omega (arith, e, entries_le slots))
slot_of-whole (Some l ∷ slots) zero e h = refl
slot_of-whole (Some l ∷ slots) (suc place) e h = ap suc (slot_of-whole slots place (omega (arith, e)) (omega (arith, h)))

-- the entries in front of a slot are as many as its entry's place

slot_of-count : (slots : List (Option Lingerer)) (at : ℕ) (l : Lingerer) → get_or slots at None ≡ Some l → slot_of slots (length (entries_in (take at slots))) ≡ at
slot_of-count [] at l e = let never : None ≡ Some l = e in absurd (cc)
slot_of-count (None ∷ slots) zero l e = let never : None ≡ Some l = e in absurd (cc)
slot_of-count (Some m ∷ slots) zero l e = refl
slot_of-count (None ∷ slots) (suc at) l e = ap suc (slot_of-count slots at l e)
slot_of-count (Some m ∷ slots) (suc at) l e = ap suc (slot_of-count slots at l e)

pub slot_found : (slots : List (Option Lingerer)) (at place left : ℕ) (l : Lingerer) → left + length (entries_in (take at slots)) ≡ place → left ≡ 0 → get_or slots at None ≡ Some l → at ≡ slot_of slots place
slot_found slots at place left l e none here =
    let same : length (entries_in (take at slots)) ≡ place = omega (arith, e, none) in
    sym (slot_of-count slots at l here) ∙ ap (slot_of slots) same

count_none : (slots : List (Option Lingerer)) (at : ℕ) → get_or slots at None ≡ None → length (entries_in (take (suc at) slots)) ≡ length (entries_in (take at slots))
count_none [] zero e = refl
count_none [] (suc at) e = refl
count_none (None ∷ slots) zero e = refl
count_none (Some m ∷ slots) zero e = let never : Some m ≡ None = e in absurd (cc)
count_none (None ∷ slots) (suc at) e = count_none slots at e
count_none (Some m ∷ slots) (suc at) e = omega (arith, count_none slots at e)

count_some : (slots : List (Option Lingerer)) (at : ℕ) (l : Lingerer) → get_or slots at None ≡ Some l → length (entries_in (take (suc at) slots)) ≡ length (entries_in (take at slots)) + 1
count_some [] at l e = let never : None ≡ Some l = e in absurd (cc)
count_some (None ∷ slots) zero l e = let never : None ≡ Some l = e in absurd (cc)
count_some (Some m ∷ slots) zero l e = refl
count_some (None ∷ slots) (suc at) l e = count_some slots at l e
count_some (Some m ∷ slots) (suc at) l e = omega (arith, count_some slots at l e)

pub count_past_none : (slots : List (Option Lingerer)) (at place left : ℕ) → left + length (entries_in (take at slots)) ≡ place → get_or slots at None ≡ None → left + length (entries_in (take (at + 1) slots)) ≡ place
count_past_none slots at place left e none =
    let next : suc at ≡ at + 1 = omega arith in
    subst (λ (n : ℕ). left + length (entries_in (take n slots)) ≡ place) next (omega (arith, e, count_none slots at none))

pub count_past_some : (slots : List (Option Lingerer)) (at place left : ℕ) (l : Lingerer) → left + length (entries_in (take at slots)) ≡ place → left ≢ 0 → get_or slots at None ≡ Some l → left - 1 + length (entries_in (take (at + 1) slots)) ≡ place
count_past_some slots at place left l e some here =
    let next : suc at ≡ at + 1 = omega arith in
    subst (λ (n : ℕ). left - 1 + length (entries_in (take n slots)) ≡ place) next (omega (arith, e, some, count_some slots at l here))
