-- Rows, and the holders that stand in them.
use Rattle.std.proofs.Common.{◌≡◌, ℕ, ◌+◌, ◌<◌, ◌≤◌, ◌≢◌, Bool, true, false, cond, List, [], ◌∷◌, Option, None, Some, length, get_or, set, replicate, map, filter, refl, ap, sym, ◌∙◌, arith, suc, zero, ltb, eqb, not}
use Rattle.std.specs.List.{count_by, find, list_all}
use Rattle.std.proofs.lemmas.Bool.{eqb-true, eq-eqb, ne_eqb, lt-ltb, le-ltb}
use Rattle.std.proofs.lemmas.Grind.{common_steps}
use Rattle.options_machine.specs.declared.rows.Holder.{Holder}
use Rattle.options_machine.specs.State.{is_holder}
use Rattle.options_machine.specs.Settle.{with_holder}
use Rattle.options_machine.specs.Law.{are_in_order}
use Rattle.options_machine.proofs.Counts.{and_left, and_right, count-cons}
use Rattle.seat_rows.specs.Rows.{are_rows_from, holders_in}

-- the first row holds what it says, and those behind it are of parties above

here : (first : ℕ) (h : Holder) (rows : List (Option Holder)) → are_rows_from first (Some h ∷ rows) ≡ true → h.party ≡ first
here first h rows e = eqb-true h.party first (and_left (eqb h.party first) (are_rows_from (suc first) rows) e)

behind : (first : ℕ) (h : Holder) (rows : List (Option Holder)) → are_rows_from first (Some h ∷ rows) ≡ true → are_rows_from (suc first) rows ≡ true
behind first h rows e = and_right (eqb h.party first) (are_rows_from (suc first) rows) e

other : (first party : ℕ) (h : Holder) (rows : List (Option Holder)) → are_rows_from first (Some h ∷ rows) ≡ true → party ≢ first → is_holder party h ≡ false
other first party h rows e apart = ne_eqb h.party party (λ same. apart (sym same ∙ here first h rows e))

own : (first party : ℕ) (h : Holder) (rows : List (Option Holder)) → are_rows_from first (Some h ∷ rows) ≡ true → party ≡ first → is_holder party h ≡ true
own first party h rows e same = eq-eqb h.party party (here first h rows e ∙ sym same)

-- no row behind is of a party below the first

find_below : (first party : ℕ) (rows : List (Option Holder)) → are_rows_from first rows ≡ true → party < first → find (is_holder party) (holders_in rows) ≡ None
find_below first party [] e below = refl
find_below first party (None ∷ rows) e below = find_below (suc first) party rows e (omega (arith, below))
find_below first party (Some h ∷ rows) e below =
    rw (other first party h rows e (omega (arith, below))) (find_below (suc first) party rows (behind first h rows e) (omega (arith, below)))

filter_below : (first party : ℕ) (rows : List (Option Holder)) → are_rows_from first rows ≡ true → party < first → filter (λ (h : Holder). not (is_holder party h)) (holders_in rows) ≡ holders_in rows
filter_below first party [] e below = refl
filter_below first party (None ∷ rows) e below = filter_below (suc first) party rows e (omega (arith, below))
filter_below first party (Some h ∷ rows) e below =
    rw (other first party h rows e (omega (arith, below))) (ap (λ (hs : List Holder). h ∷ hs) (filter_below (suc first) party rows (behind first h rows e) (omega (arith, below))))

map_below : (f : Bool → Holder → Holder) → ((h : Holder) → f false h ≡ h) → (first party : ℕ) (rows : List (Option Holder)) → are_rows_from first rows ≡ true → party < first → map (λ (h : Holder). f (is_holder party h) h) (holders_in rows) ≡ holders_in rows
map_below f same first party [] e below = refl
map_below f same first party (None ∷ rows) e below = map_below f same (suc first) party rows e (omega (arith, below))
map_below f same first party (Some h ∷ rows) e below =
    rw (other first party h rows e (omega (arith, below)), same h) (ap (λ (hs : List Holder). h ∷ hs) (map_below f same (suc first) party rows (behind first h rows e) (omega (arith, below))))

with_below : (first : ℕ) (h : Holder) (rows : List (Option Holder)) → are_rows_from first rows ≡ true → h.party < first → with_holder h (holders_in rows) ≡ h ∷ holders_in rows
with_below first h [] e below = refl
with_below first h (None ∷ rows) e below = with_below (suc first) h rows e (omega (arith, below))
with_below first h (Some g ∷ rows) e below =
    let less : ltb h.party g.party ≡ true = lt-ltb h.party g.party (omega (arith, below, here first g rows e)) in
    rw less refl

-- a party's seat is what its row holds
pub find_in_row : (first at party : ℕ) (rows : List (Option Holder)) → party ≡ first + at → are_rows_from first rows ≡ true → find (is_holder party) (holders_in rows) ≡ get_or rows at None
find_in_row first at party [] p e = refl
find_in_row first zero party (None ∷ rows) p e = find_below (suc first) party rows e (omega (arith, p))
find_in_row first zero party (Some h ∷ rows) p e = rw (own first party h rows e (omega (arith, p))) refl
find_in_row first (suc at) party (None ∷ rows) p e = find_in_row (suc first) at party rows (omega (arith, p)) e
find_in_row first (suc at) party (Some h ∷ rows) p e =
    rw (other first party h rows e (omega (arith, p))) (find_in_row (suc first) at party rows (omega (arith, p)) (behind first h rows e))

-- one more seat in the row of its party
pub put_in_row : (first at : ℕ) (h : Holder) (rows : List (Option Holder)) → h.party ≡ first + at → are_rows_from first rows ≡ true → at < length rows → get_or rows at None ≡ None → holders_in (set rows at (Some h)) ≡ with_holder h (holders_in rows)
put_in_row first at h [] p e less none = absurd (omega (arith, less))
put_in_row first zero h (None ∷ rows) p e less none = sym (with_below (suc first) h rows e (omega (arith, p)))
put_in_row first zero h (Some g ∷ rows) p e less none = let never : Some g ≡ None = none in absurd (cc)
put_in_row first (suc at) h (None ∷ rows) p e less none = put_in_row (suc first) at h rows (omega (arith, p)) e (omega (arith, less)) none
put_in_row first (suc at) h (Some g ∷ rows) p e less none =
    let above : ltb h.party g.party ≡ false = le-ltb h.party g.party (omega (arith, p, here first g rows e)) in
    rw above (ap (λ (hs : List Holder). g ∷ hs) (put_in_row (suc first) at h rows (omega (arith, p)) (behind first g rows e) (omega (arith, less)) none))

-- the row of a party whose seat goes
pub take_in_row : (first at party : ℕ) (rows : List (Option Holder)) → party ≡ first + at → are_rows_from first rows ≡ true → holders_in (set rows at None) ≡ filter (λ (h : Holder). not (is_holder party h)) (holders_in rows)
take_in_row first at party [] p e = refl
take_in_row first zero party (None ∷ rows) p e = sym (filter_below (suc first) party rows e (omega (arith, p)))
take_in_row first zero party (Some h ∷ rows) p e = rw (own first party h rows e (omega (arith, p))) (sym (filter_below (suc first) party rows (behind first h rows e) (omega (arith, p))))
take_in_row first (suc at) party (None ∷ rows) p e = take_in_row (suc first) at party rows (omega (arith, p)) e
take_in_row first (suc at) party (Some h ∷ rows) p e =
    rw (other first party h rows e (omega (arith, p))) (ap (λ (hs : List Holder). h ∷ hs) (take_in_row (suc first) at party rows (omega (arith, p)) (behind first h rows e)))

-- the row of a party whose seat changes
pub map_in_row : (f : Bool → Holder → Holder) → ((h : Holder) → f false h ≡ h) → (first at party : ℕ) (h : Holder) (rows : List (Option Holder)) → party ≡ first + at → are_rows_from first rows ≡ true → get_or rows at None ≡ Some h
    → holders_in (set rows at (Some (f true h))) ≡ map (λ (x : Holder). f (is_holder party x) x) (holders_in rows)
map_in_row f same first at party h [] p e found = let never : None ≡ Some h = found in absurd (cc)
map_in_row f same first zero party h (None ∷ rows) p e found = let never : None ≡ Some h = found in absurd (cc)
map_in_row f same first zero party h (Some g ∷ rows) p e found =
    let both : Some g ≡ Some h = found in
    let equal : g ≡ h = cc in
    rw (own first party g rows e (omega (arith, p)), map_below f same (suc first) party rows (behind first g rows e) (omega (arith, p)), ← equal) refl
map_in_row f same first (suc at) party h (None ∷ rows) p e found = map_in_row f same (suc first) at party h rows (omega (arith, p)) e found
map_in_row f same first (suc at) party h (Some g ∷ rows) p e found =
    rw (other first party g rows e (omega (arith, p)), same g) (ap (λ (hs : List Holder). g ∷ hs) (map_in_row f same (suc first) at party h rows (omega (arith, p)) (behind first g rows e) found))

-- where the party has no seat, none changes
pub map_no_row : (f : Bool → Holder → Holder) → ((h : Holder) → f false h ≡ h) → (first at party : ℕ) (rows : List (Option Holder)) → party ≡ first + at → are_rows_from first rows ≡ true → get_or rows at None ≡ None
    → map (λ (x : Holder). f (is_holder party x) x) (holders_in rows) ≡ holders_in rows
map_no_row f same first at party [] p e none = refl
map_no_row f same first zero party (None ∷ rows) p e none = map_below f same (suc first) party rows e (omega (arith, p))
map_no_row f same first zero party (Some g ∷ rows) p e none = let never : Some g ≡ None = none in absurd (cc)
map_no_row f same first (suc at) party (None ∷ rows) p e none = map_no_row f same (suc first) at party rows (omega (arith, p)) e none
map_no_row f same first (suc at) party (Some g ∷ rows) p e none =
    rw (other first party g rows e (omega (arith, p)), same g) (ap (λ (hs : List Holder). g ∷ hs) (map_no_row f same (suc first) at party rows (omega (arith, p)) (behind first g rows e) none))

-- a row that is set leaves each holder in the row of its party

pub in_place_some : (first at : ℕ) (h : Holder) (rows : List (Option Holder)) → h.party ≡ first + at → are_rows_from first rows ≡ true → are_rows_from first (set rows at (Some h)) ≡ true
in_place_some first at h [] p e = refl
in_place_some first zero h (None ∷ rows) p e = rw (eq-eqb h.party first (omega (arith, p))) e
in_place_some first zero h (Some g ∷ rows) p e = rw (eq-eqb h.party first (omega (arith, p))) (behind first g rows e)
in_place_some first (suc at) h (None ∷ rows) p e = in_place_some (suc first) at h rows (omega (arith, p)) e
in_place_some first (suc at) h (Some g ∷ rows) p e = rw (eq-eqb g.party first (here first g rows e)) (in_place_some (suc first) at h rows (omega (arith, p)) (behind first g rows e))

pub in_place_none : (first at : ℕ) (rows : List (Option Holder)) → are_rows_from first rows ≡ true → are_rows_from first (set rows at None) ≡ true
in_place_none first at [] e = refl
in_place_none first zero (None ∷ rows) e = e
in_place_none first zero (Some g ∷ rows) e = behind first g rows e
in_place_none first (suc at) (None ∷ rows) e = in_place_none (suc first) at rows e
in_place_none first (suc at) (Some g ∷ rows) e = rw (eq-eqb g.party first (here first g rows e)) (in_place_none (suc first) at rows (behind first g rows e))

-- how many holders there are then

pub length_some : (at : ℕ) (h : Holder) (rows : List (Option Holder)) → at < length rows → get_or rows at None ≡ None → length (holders_in (set rows at (Some h))) ≡ length (holders_in rows) + 1
length_some at h [] less none = absurd (omega (arith, less))
length_some zero h (None ∷ rows) less none = omega arith
length_some zero h (Some g ∷ rows) less none = let never : Some g ≡ None = none in absurd (cc)
length_some (suc at) h (None ∷ rows) less none = length_some at h rows (omega (arith, less)) none
length_some (suc at) h (Some g ∷ rows) less none = omega (arith, length_some at h rows (omega (arith, less)) none)

pub length_none : (at : ℕ) (h : Holder) (rows : List (Option Holder)) → get_or rows at None ≡ Some h → length (holders_in (set rows at None)) + 1 ≡ length (holders_in rows)
length_none at h [] e = let never : None ≡ Some h = e in absurd (cc)
length_none zero h (None ∷ rows) e = let never : None ≡ Some h = e in absurd (cc)
length_none zero h (Some g ∷ rows) e = omega arith
length_none (suc at) h (None ∷ rows) e = length_none at h rows e
length_none (suc at) h (Some g ∷ rows) e = omega (arith, length_none at h rows e)

pub length_same : (at : ℕ) (g h : Holder) (rows : List (Option Holder)) → get_or rows at None ≡ Some g → length (holders_in (set rows at (Some h))) ≡ length (holders_in rows)
length_same at g h [] e = refl
length_same zero g h (None ∷ rows) e = let never : None ≡ Some g = e in absurd (cc)
length_same zero g h (Some f ∷ rows) e = omega arith
length_same (suc at) g h (None ∷ rows) e = length_same at g h rows e
length_same (suc at) g h (Some f ∷ rows) e = omega (arith, length_same at g h rows e)

pub length_at_most : (rows : List (Option Holder)) → length (holders_in rows) ≤ length rows
length_at_most [] = omega arith
length_at_most (None ∷ rows) = omega (arith, length_at_most rows)
length_at_most (Some h ∷ rows) = omega (arith, length_at_most rows)

-- where a seat goes, one less passes a test if it does, and a filter that it doesn't pass gives the same

pub count_in_row : (test : Holder → Bool) (at : ℕ) (h : Holder) (rows : List (Option Holder)) → get_or rows at None ≡ Some h → count_by test (holders_in (set rows at None)) + cond (test h) 1 0 ≡ count_by test (holders_in rows)
count_in_row test at h [] e = let never : None ≡ Some h = e in absurd (cc)
count_in_row test zero h (None ∷ rows) e = let never : None ≡ Some h = e in absurd (cc)
count_in_row test zero h (Some g ∷ rows) e =
    let both : Some g ≡ Some h = e in
    let equal : g ≡ h = cc in
    rw (← equal) (omega (arith, count-cons test g (holders_in rows)))
count_in_row test (suc at) h (None ∷ rows) e = count_in_row test at h rows e
count_in_row test (suc at) h (Some g ∷ rows) e = omega (arith, count_in_row test at h rows e, count-cons test g (holders_in (set rows at None)), count-cons test g (holders_in rows))

pub filter_in_row : (test : Holder → Bool) (at : ℕ) (h : Holder) (rows : List (Option Holder)) → get_or rows at None ≡ Some h → test h ≡ false → filter test (holders_in (set rows at None)) ≡ filter test (holders_in rows)
filter_in_row test at h [] e out = let never : None ≡ Some h = e in absurd (cc)
filter_in_row test zero h (None ∷ rows) e out = let never : None ≡ Some h = e in absurd (cc)
filter_in_row test zero h (Some g ∷ rows) e out =
    let both : Some g ≡ Some h = e in
    let equal : g ≡ h = cc in
    let fails : test g ≡ false = ap test equal ∙ out in
    rw fails refl
filter_in_row test (suc at) h (None ∷ rows) e out = filter_in_row test at h rows e out
filter_in_row test (suc at) h (Some g ∷ rows) e out = ap (λ (hs : List Holder). cond (test g) (g ∷ hs) hs) (filter_in_row test at h rows e out)

-- rows with no seat

pub no_rows : (first n : ℕ) → are_rows_from first (replicate n None) ≡ true
no_rows first zero = refl
no_rows first (suc n) = no_rows (suc first) n

pub no_holders : (n : ℕ) → holders_in (replicate n None) ≡ []
no_holders zero = refl
no_holders (suc n) = no_holders n

pub no_seat : (n at : ℕ) → get_or (replicate {A = Option Holder} n None) at None ≡ None
no_seat zero at = refl
no_seat (suc n) zero = refl
no_seat (suc n) (suc at) = no_seat n at

-- the holders stand in the order of their parties, which are those of the rows

above : (low first : ℕ) (rows : List (Option Holder)) → are_rows_from first rows ≡ true → low < first → list_all (λ (g : Holder). ltb low g.party) (holders_in rows) ≡ true
above low first [] e less = refl
above low first (None ∷ rows) e less = above low (suc first) rows e (omega (arith, less))
above low first (Some h ∷ rows) e less =
    rw (lt-ltb low h.party (omega (arith, less, here first h rows e)), above low (suc first) rows (behind first h rows e) (omega (arith, less))) refl

pub order_in_rows : (first : ℕ) (rows : List (Option Holder)) → are_rows_from first rows ≡ true → are_in_order (holders_in rows) ≡ true
order_in_rows first [] e = refl
order_in_rows first (None ∷ rows) e = order_in_rows (suc first) rows e
order_in_rows first (Some h ∷ rows) e =
    rw (above h.party (suc first) rows (behind first h rows e) (omega (arith, here first h rows e)), order_in_rows (suc first) rows (behind first h rows e)) refl

pub inside_rows : (first n : ℕ) (rows : List (Option Holder)) → are_rows_from first rows ≡ true → first + length rows ≤ n → list_all (λ (h : Holder). ltb h.party n) (holders_in rows) ≡ true
inside_rows first n [] e long = refl
inside_rows first n (None ∷ rows) e long = inside_rows (suc first) n rows e (omega (arith, long))
inside_rows first n (Some h ∷ rows) e long =
    rw (lt-ltb h.party n (omega (arith, long, here first h rows e)), inside_rows (suc first) n rows (behind first h rows e) (omega (arith, long))) refl

-- reading and setting a row

pub row_at : (rows : List (Option Holder)) (at : ℕ) (o : Option Holder) → at < length rows → o ≡ get_or rows at o → get_or rows at None ≡ o
row_at rows at o h e = grind (arith, common_steps)

pub row_within : (rows : List (Option Holder)) (at : ℕ) (h : Holder) → get_or rows at None ≡ Some h → at < length rows
row_within [] at h e = let never : None ≡ Some h = e in absurd (cc)
row_within (r ∷ rows) zero h e = omega arith
row_within (r ∷ rows) (suc at) h e = omega (arith, row_within rows at h e)

pub length_set : (rows : List (Option Holder)) (at : ℕ) (o : Option Holder) → length (set rows at o) ≡ length rows
length_set rows at o = grind (arith, common_steps)

pub set_same : (rows : List (Option Holder)) (at : ℕ) → get_or rows at None ≡ None → set rows at None ≡ rows
set_same rows at e = grind (arith, common_steps)
