-- What becomes of deadlines in order.
use Rattle.std.proofs.Common.{◌≡◌, ℕ, ◌+◌, ◌<◌, ◌≤◌, Bool, true, false, cond, not, List, [], ◌∷◌, Option, Some, None, length, slice_get, filter, find, IsNone, IfSome, IsTrue, refl, ap, arith}
use Rattle.std.specs.Option.{option_map}
use Rattle.std.specs.List.{All}
use Rattle.std.proofs.lemmas.List.Elements.{All-nil, All-cons}
use Rattle.std.proofs.lemmas.Bool.Decides.{nat_tests}
use Rattle.linger_clock.specs.declared.Deadline.{Deadline}
use Rattle.linger_clock.specs.Deadlines.{is_before, is_of, is_due, until_of, without, with_deadline, AllAfter, IsInOrder, HasDistinctOwners, IsClock}
use Rattle.linger_clock.proofs.Before.{due_no_later, before_trans, before_not_back, before_or_after}

-- d in front of the first that comes after it
abbrev pub put : Deadline → List Deadline → List Deadline
put d [] = d ∷ []
put d (e ∷ es) = cond (is_before d e) (d ∷ e ∷ es) (e ∷ put d es)

-- what comes after a later deadline comes after an earlier one
pub after_later : (d e : Deadline) (ds : List Deadline) → IsTrue (is_before d e) → AllAfter e ds → AllAfter d ds
after_later d e [] h a = tt
after_later d e (x ∷ ds) h a = (before_trans d e x h a.0, after_later d e ds h a.1)

-- a filter takes some away
pub AllAfter-filter : (p : Deadline → Bool) (d : Deadline) (ds : List Deadline) → AllAfter d ds → AllAfter d (filter p ds)
AllAfter-filter p d [] a = tt
AllAfter-filter p d (e ∷ es) a = elim (p e) as (λ b. AllAfter d (cond b (e ∷ filter p es) (filter p es))) [ true ↦ (a.0, AllAfter-filter p d es a.1) | false ↦ AllAfter-filter p d es a.1 ]

pub in_order-filter : (p : Deadline → Bool) (ds : List Deadline) → IsInOrder ds → IsInOrder (filter p ds)
in_order-filter p [] s = tt
in_order-filter p (d ∷ ds) s = elim (p d) as (λ b. IsInOrder (cond b (d ∷ filter p ds) (filter p ds))) [ true ↦ (AllAfter-filter p d ds s.0, in_order-filter p ds s.1) | false ↦ in_order-filter p ds s.1 ]

pub absent-filter : (p : Deadline → Bool) (owner : ℕ) (ds : List Deadline) → IsNone (until_of owner ds) → IsNone (until_of owner (filter p ds))
absent-filter p owner [] h = h
absent-filter p owner (d ∷ ds) h = grind (arith, absent-filter p owner ds)

pub distinct-filter : (p : Deadline → Bool) (ds : List Deadline) → HasDistinctOwners ds → HasDistinctOwners (filter p ds)
distinct-filter p [] s = tt
distinct-filter p (d ∷ ds) s = elim (p d) as (λ b. HasDistinctOwners (cond b (d ∷ filter p ds) (filter p ds))) [ true ↦ (absent-filter p d.owner ds s.0, distinct-filter p ds s.1) | false ↦ distinct-filter p ds s.1 ]

pub length-filter-le : (p : Deadline → Bool) (ds : List Deadline) → length (filter p ds) ≤ length ds
length-filter-le p [] = omega arith
length-filter-le p (d ∷ ds) = grind (arith, length-filter-le p ds)

-- without an owner that has none, all stay
pub without_absent : (owner : ℕ) (ds : List Deadline) → IsNone (until_of owner ds) → without owner ds ≡ ds
without_absent owner [] h = refl
without_absent owner (d ∷ ds) h = grind (arith, without_absent owner ds)

-- what comes after d isn't before it
filter_before_none : (d : Deadline) (ds : List Deadline) → AllAfter d ds → filter (λ e. is_before e d) ds ≡ []
filter_before_none d [] a = refl
filter_before_none d (e ∷ es) a = rw (before_not_back d e a.0) (filter_before_none d es a.1)

filter_after_all : (d : Deadline) (ds : List Deadline) → AllAfter d ds → filter (λ e. is_before d e) ds ≡ ds
filter_after_all d [] a = refl
filter_after_all d (e ∷ es) a = rw a.0 (ap (λ xs. e ∷ xs) (filter_after_all d es a.1))

pub placed-put : (d : Deadline) (ds : List Deadline) → IsInOrder ds → IsNone (until_of d.owner ds) → with_deadline d ds ≡ put d ds
placed-put d [] s h = refl
placed-put d (e ∷ es) s h = by (is_before d e) refl (placed-put d es s.1)
  where
    by : (b : Bool) → is_before d e ≡ b → (IsNone (until_of d.owner es) → with_deadline d es ≡ put d es) → with_deadline d (e ∷ es) ≡ put d (e ∷ es)
    by true first rest =
        rw (first, before_not_back d e first)
        (rw (filter_before_none d es (after_later d e es first s.0), filter_after_all d es (after_later d e es first s.0)) refl)
    by false last rest =
        let other : is_of d.owner e ≡ false = grind arith in
        let before : is_before e d ≡ true = before_or_after d e other last in
        rw (last, before) (ap (λ xs. e ∷ xs) (rest (grind arith)))

AllAfter-put : (x d : Deadline) (ds : List Deadline) → IsTrue (is_before x d) → AllAfter x ds → AllAfter x (put d ds)
AllAfter-put x d [] h a = (h, tt)
AllAfter-put x d (e ∷ es) h a = elim (is_before d e) as (λ b. AllAfter x (cond b (d ∷ e ∷ es) (e ∷ put d es))) [ true ↦ (h, a) | false ↦ (a.0, AllAfter-put x d es h a.1) ]

pub in_order-put : (d : Deadline) (ds : List Deadline) → IsInOrder ds → IsNone (until_of d.owner ds) → IsInOrder (put d ds)
in_order-put d [] s h = (tt, tt)
in_order-put d (e ∷ es) s h = by (is_before d e) refl (in_order-put d es s.1)
  where
    by : (b : Bool) → is_before d e ≡ b → (IsNone (until_of d.owner es) → IsInOrder (put d es)) → IsInOrder (put d (e ∷ es))
    by true first rest = rw first ((first, after_later d e es first s.0), s)
    by false last rest =
        let other : is_of d.owner e ≡ false = grind arith in
        rw last (AllAfter-put e d es (before_or_after d e other last) s.0, rest (grind arith))

absent-put : (owner : ℕ) (d : Deadline) (ds : List Deadline) → is_of owner d ≡ false → IsNone (until_of owner ds) → IsNone (until_of owner (put d ds))
absent-put owner d [] other h = grind arith
absent-put owner d (e ∷ es) other h = grind (arith, absent-put owner d es)

pub distinct-put : (d : Deadline) (ds : List Deadline) → HasDistinctOwners ds → IsNone (until_of d.owner ds) → HasDistinctOwners (put d ds)
distinct-put d [] s h = (refl, tt)
distinct-put d (e ∷ es) s h = elim (is_before d e) as (λ b. HasDistinctOwners (cond b (d ∷ e ∷ es) (e ∷ put d es))) [
  | true ↦ (h, s)
  | false ↦ (absent-put e.owner d es (grind (arith, nat_tests)) s.0, distinct-put d es s.1 (grind arith))
]

pub length-put : (d : Deadline) (ds : List Deadline) → length (put d ds) ≡ length ds + 1
length-put d [] = refl
length-put d (e ∷ es) = grind (arith, length-put d es)

-- where the first isn't due, none is
pub none_due : (now : ℕ) (ds : List Deadline) (d : Deadline) → AllAfter d ds → now < d.until → find (is_due now) ds ≡ None
none_due now [] d a h = refl
none_due now (e ∷ ds) d a h =
    let later = due_no_later d e a.0 in
    let not_due : is_due now e ≡ false = grind (arith, nat_tests) in
    rw not_due (none_due now ds d a.1 h)

-- the first is the earliest
pub first_least : (d : Deadline) (ds : List Deadline) → AllAfter d ds → All (λ e. d.until ≤ e.until) ds
first_least d [] a = All-nil (λ e. d.until ≤ e.until)
first_least d (e ∷ ds) a = All-cons (λ x. d.until ≤ x.until) e ds (due_no_later d e a.0) (first_least d ds a.1)

-- a deadline of a new owner at its place keeps the clock sound
pub IsClock-placed : (room : ℕ) (ds : List Deadline) (d : Deadline) → IsClock (record { room = room; pairs = ds }) → IsNone (until_of d.owner ds) → length ds < room → IsClock (record { room = room; pairs = with_deadline d ds })
IsClock-placed room ds d s h room_left = rw (placed-put d ds s.in_order h) (record {
  in_order = in_order-put d ds s.in_order h;
  distinct = distinct-put d ds s.distinct h;
  within = omega (arith, length-put d ds);
})

-- so does taking one out
pub IsClock-without : (room : ℕ) (ds : List Deadline) (owner : ℕ) → IsClock (record { room = room; pairs = ds }) → IsClock (record { room = room; pairs = without owner ds })
IsClock-without room ds owner s = record {
  in_order = in_order-filter (λ d. not (is_of owner d)) ds s.in_order;
  distinct = distinct-filter (λ d. not (is_of owner d)) ds s.distinct;
  within = omega (arith, length-filter-le (λ d. not (is_of owner d)) ds, s.within);
}

-- the moment that is due first is at most any other
pub due_least : (ds : List Deadline) (r : Option ℕ) → r ≡ option_map (λ d. d.until) (slice_get ds 0) → IsInOrder ds → IfSome r (λ moment. All (λ d. moment ≤ d.until) ds)
due_least [] r e s = rw e tt
due_least (d ∷ ds) r e s = rw e (All-cons (λ x. d.until ≤ x.until) d ds (omega arith) (first_least d ds s.0))

-- the first, by its place
pub find_none_due : (now : ℕ) (ds : List Deadline) (d : Deadline) → slice_get ds 0 ≡ Some d → IsInOrder ds → now < d.until → find (is_due now) ds ≡ None
find_none_due now [] d e s h = refl
find_none_due now (x ∷ ds) d e s h =
    let same : x ≡ d = cc in
    let later : now < x.until = rw same h in
    let not_due : is_due now x ≡ false = grind (arith, nat_tests) in
    rw not_due (none_due now ds x s.0 later)

-- d is there once it is put in, and without it the others are as they were
pub there-put : (d : Deadline) (ds : List Deadline) → IsNone (until_of d.owner ds) → until_of d.owner (put d ds) ≡ Some d.until
there-put d [] h = let own : is_of d.owner d ≡ true = grind (arith, nat_tests) in rw own refl
there-put d (e ∷ es) h = let own : is_of d.owner d ≡ true = grind (arith, nat_tests) in grind (arith, there-put d es)

pub others-put : (d : Deadline) (ds : List Deadline) → IsNone (until_of d.owner ds) → without d.owner (put d ds) ≡ ds
others-put d [] h = let own : is_of d.owner d ≡ true = grind (arith, nat_tests) in rw own refl
others-put d (e ∷ es) h = by (is_before d e) refl (others-put d es)
  where
    by : (b : Bool) → is_before d e ≡ b → (IsNone (until_of d.owner es) → without d.owner (put d es) ≡ es) → without d.owner (put d (e ∷ es)) ≡ e ∷ es
    by true first rest =
        let own : is_of d.owner d ≡ true = grind (arith, nat_tests) in
        rw (first, own) (without_absent d.owner (e ∷ es) h)
    by false last rest =
        let other : is_of d.owner e ≡ false = grind arith in
        rw (last, other) (ap (λ xs. e ∷ xs) (rest (grind arith)))
