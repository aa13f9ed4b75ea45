-- The first slot of a client, and the first entry of it.
use Rattle.std.proofs.Common.{◌≡◌, ℕ, ◌+◌, ◌<◌, ◌≤◌, ◌==◌, Bool, true, false, cond, List, [], ◌∷◌, Option, None, Some, length, get_or, set, map, refl, ap, sym, ◌∙◌, arith, suc, zero, ltb, eqb, ◌&&◌}
use Rattle.std.specs.List.{find, position, position_or_len, zip}
use Rattle.std.specs.Prelude.{IsSome}
use Rattle.std.proofs.lemmas.Bool.{eq-eqb, ltb-true}
use Rattle.std.proofs.Math.Bool.{and-false}
use Rattle.lic_types.specs.declared.client.Client.{Client}
use Rattle.options_machine.specs.declared.rows.Lingerer.{Lingerer}
use Rattle.options_machine.specs.Decide.{is_left_by}
use Rattle.options_machine.specs.Settle.{without_first}
use Rattle.options_machine.proofs.Places.{position_is}
use Rattle.options_machine.proofs.Served.{client_eq}
use Rattle.linger_table.specs.Marks.{mark_of}
use Rattle.linger_table.specs.Slots.{entries_in, mark_in, slot_is_of}

-- a slot that is of the client has its mark

marked_by : (client : Client) (l : Lingerer) (b : Bool) → is_left_by client l ≡ b → (mark_of l.client == mark_of client && is_left_by client l) ≡ is_left_by client l
marked_by client l true e =
    let same : l.client ≡ client = client_eq l.client client e in
    let marks : eqb (mark_of l.client) (mark_of client) ≡ true = eq-eqb (mark_of l.client) (mark_of client) (ap mark_of same) in
    rw (e, marks) refl
marked_by client l false e = rw e (and-false (mark_of l.client == mark_of client))

marked_test : (client : Client) (slot : Option Lingerer) → (mark_in slot == mark_of client && slot_is_of client slot) ≡ slot_is_of client slot
marked_test client None = and-false (0 == mark_of client)
marked_test client (Some l) = marked_by client l (is_left_by client l) refl

abbrev passes : Client → ℕ × Option Lingerer → Bool
passes client p = p.0 == mark_of client && slot_is_of client p.1

marked_place : (client : Client) (slots : List (Option Lingerer)) → position_or_len (passes client) (zip (map mark_in slots) slots) ≡ position_or_len (slot_is_of client) slots
marked_place client [] = refl
marked_place client (s ∷ slots) = rw (marked_test client s, marked_place client slots) refl

marked_length : (slots : List (Option Lingerer)) → length (zip (map mark_in slots) slots) ≡ length slots
marked_length [] = refl
marked_length (s ∷ slots) = ap suc (marked_length slots)

abbrev place_below : ℕ → ℕ → Option ℕ
place_below at n = cond (ltb at n) (Some at) None

marked_position : (client : Client) (slots : List (Option Lingerer)) → position (passes client) (zip (map mark_in slots) slots) ≡ position (slot_is_of client) slots
marked_position client slots =
    ap (λ (n : ℕ). place_below n (length (zip (map mark_in slots) slots))) (marked_place client slots)
    ∙ ap (place_below (position_or_len (slot_is_of client) slots)) (marked_length slots)

-- the first slot of the mark that is of the client is the first slot of the client
pub first_by_mark : (client : Client) (marks : List ℕ) (slots : List (Option Lingerer)) (mark : ℕ) → marks ≡ map mark_in slots → mark ≡ mark_of client → position (λ (p : ℕ × Option Lingerer). p.0 == mark && slot_is_of client p.1) (zip marks slots) ≡ position (slot_is_of client) slots
first_by_mark client marks slots mark e f =
    ap (λ (m : ℕ). position (λ (p : ℕ × Option Lingerer). p.0 == m && slot_is_of client p.1) (zip marks slots)) f
    ∙ ap (λ (ms : List ℕ). position (passes client) (zip ms slots)) e
    ∙ marked_position client slots

-- what is known of the first slot of a client
abbrev pub IsFirst : Client → List (Option Lingerer) → ℕ → Type 0
IsFirst client slots at =
    (entries_in (set slots at None) ≡ without_first (is_left_by client) (entries_in slots))
    × (get_or slots at None ≡ find (is_left_by client) (entries_in slots))
    × (IsSome (get_or slots at None))

first_step : (client : Client) (l : Lingerer) (slots : List (Option Lingerer)) (at : ℕ) (b : Bool) → is_left_by client l ≡ b → at ≡ position_or_len (slot_is_of client) (Some l ∷ slots) → at < length (Some l ∷ slots)
    → ((n : ℕ) → n ≡ position_or_len (slot_is_of client) slots → n < length slots → IsFirst client slots n) → IsFirst client (Some l ∷ slots) at
first_step client l slots zero true g e less rest = (rw g refl, rw g refl, refl)
first_step client l slots (suc at) true g e less rest = let no : suc at ≡ 0 = rw g at e in absurd (omega (arith, no))
first_step client l slots zero false g e less rest = let no : zero ≡ 1 + position_or_len (slot_is_of client) slots = rw g at e in absurd (omega (arith, no))
first_step client l slots (suc at) false g e less rest =
    let here : suc at ≡ 1 + position_or_len (slot_is_of client) slots = rw g at e in
    let (entries, found, some) = rest at (omega (arith, here)) (omega (arith, less)) in
    (rw g (ap (λ (xs : List Lingerer). l ∷ xs) entries), rw g found, some)

first_slot : (client : Client) (slots : List (Option Lingerer)) (at : ℕ) → at ≡ position_or_len (slot_is_of client) slots → at < length slots → IsFirst client slots at
first_slot client [] at e less = absurd (omega (arith, less))
first_slot client (None ∷ slots) zero e less = let no : zero ≡ 1 + position_or_len (slot_is_of client) slots = e in absurd (omega (arith, no))
first_slot client (None ∷ slots) (suc at) e less =
    let here : suc at ≡ 1 + position_or_len (slot_is_of client) slots = e in
    first_slot client slots at (omega (arith, here)) (omega (arith, less))
first_slot client (Some l ∷ slots) at e less = first_step client l slots at (is_left_by client l) refl e less (λ n. first_slot client slots n)

-- where no slot is of the client, no entry is
abbrev pub IsNowhere : Client → List (Option Lingerer) → Type 0
IsNowhere client slots = (find (is_left_by client) (entries_in slots) ≡ None) × (entries_in slots ≡ without_first (is_left_by client) (entries_in slots))

nowhere : (client : Client) (slots : List (Option Lingerer)) → length slots ≤ position_or_len (slot_is_of client) slots → IsNowhere client slots
nowhere client [] e = (refl, refl)
nowhere client (None ∷ slots) e = nowhere client slots (let more : length {A = Option Lingerer} (None ∷ slots) ≤ 1 + position_or_len (slot_is_of client) slots = e in omega (arith, more))
nowhere client (Some l ∷ slots) e = by (is_left_by client l) refl (nowhere client slots)
  where
    by : (b : Bool) → is_left_by client l ≡ b → (length slots ≤ position_or_len (slot_is_of client) slots → IsNowhere client slots) → IsNowhere client (Some l ∷ slots)
    by true g rest = let no : length (Some l ∷ slots) ≤ 0 = rw g at e in absurd (omega (arith, no))
    by false g rest =
        let more : length (Some l ∷ slots) ≤ 1 + position_or_len (slot_is_of client) slots = rw g at e in
        let (none, same) = rest (omega (arith, more)) in
        (rw g none, rw g (ap (λ (xs : List Lingerer). l ∷ xs) same))

-- by what `position` says

within_cases : (i n at : ℕ) (b : Bool) → ltb i n ≡ b → cond b (Some i) None ≡ Some at → at < n
within_cases i n at true e f = let both : Some i ≡ Some at = f in let same : i ≡ at = cc in let less : i < n = ltb-true i n e in omega (arith, same, less)
within_cases i n at false e f = let never : None ≡ Some at = f in absurd (cc)

pub first_at : (client : Client) (slots : List (Option Lingerer)) (at : ℕ) → position (slot_is_of client) slots ≡ Some at → IsFirst client slots at
first_at client slots at e =
    first_slot client slots at (sym (position_is (slot_is_of client) slots (Some at) e))
    (within_cases (position_or_len (slot_is_of client) slots) (length slots) at (ltb (position_or_len (slot_is_of client) slots) (length slots)) refl e)

pub first_none : (client : Client) (slots : List (Option Lingerer)) → position (slot_is_of client) slots ≡ None → IsNowhere client slots
first_none client slots e = nowhere client slots (position_is (slot_is_of client) slots None e)
