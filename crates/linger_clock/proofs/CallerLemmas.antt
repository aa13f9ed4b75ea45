-- What a user of a clock cites: the moments that are waited for after each call, and what is left once nothing is due.
use Rattle.std.proofs.Common.{◌≡◌, ℕ, ◌+◌, Bool, true, false, true≢false, cond, not, eqb, List, [], ◌∷◌, Some, None, length, filter, find, IsNone, IsSome, refl, sym, ap, ◌∙◌, arith}
use Rattle.std.proofs.lemmas.Bool.Decides.{nat_tests}
use Rattle.linger_clock.specs.declared.Deadline.{Deadline}
use Rattle.linger_clock.specs.declared.tree.Order.TheVariants.{ByMoment}
use Rattle.linger_clock.specs.Deadlines.{is_of, is_due, until_of, without, with_deadline, IsInOrder, HasDistinctOwners}
use Rattle.linger_clock.proofs.Pairs.{placed-put, length-put, without_absent}
use Rattle.linger_clock.proofs.Keeping as keeping

-- after `add`, the owner's moment is the new one, and each other owner's is as before
pub until_of-placed : (d : Deadline) (q : ℕ) (ds : List Deadline) → IsInOrder ds → IsNone (until_of d.owner ds) → until_of q (with_deadline d ds) ≡ cond (is_of q d) (Some d.until) (until_of q ds)
until_of-placed d q ds s h = ap (until_of q) (placed-put d ds s h ∙ sym (keeping.ranked_in-put d ds)) ∙ keeping.until_of-ranked_in ByMoment d q ds h

pub length-placed : (d : Deadline) (ds : List Deadline) → IsInOrder ds → IsNone (until_of d.owner ds) → length (with_deadline d ds) ≡ length ds + 1
length-placed d ds s h = ap length (placed-put d ds s h) ∙ length-put d ds

-- after `remove` and `settle`, the owner has none, and each other owner's moment is as before
pub until_of-without : (owner q : ℕ) (ds : List Deadline) → until_of q (without owner ds) ≡ cond (eqb q owner) None (until_of q ds)
until_of-without = keeping.until_of-without

pub length-without : (owner : ℕ) (ds : List Deadline) → HasDistinctOwners ds → IsSome (until_of owner ds) → length (without owner ds) + 1 ≡ length ds
length-without = keeping.length-without

-- one that is found has a moment
found_waits : (p : Deadline → Bool) (d : Deadline) (ds : List Deadline) → find p ds ≡ Some d → IsSome (until_of d.owner ds)
found_waits p d [] h = absurd (cc)
found_waits p d (e ∷ es) h = by (p e) refl (found_waits p d es)
  where
    by : (b : Bool) → p e ≡ b → (find p es ≡ Some d → IsSome (until_of d.owner es)) → IsSome (until_of d.owner (e ∷ es))
    by true passes rest =
        let same : e ≡ d = cc in
        let own : is_of d.owner e ≡ true = rw same (grind (arith, nat_tests)) in
        rw own refl
    by false fails rest = let later = rest (rw fails at h) in grind arith

-- taking out one that is due leaves those that aren't
pub later-without : (now : ℕ) (d : Deadline) (ds : List Deadline) → HasDistinctOwners ds → find (is_due now) ds ≡ Some d → filter (λ e. not (is_due now e)) (without d.owner ds) ≡ filter (λ e. not (is_due now e)) ds
later-without now d [] s h = refl
later-without now d (e ∷ es) s h = by (is_due now e) (is_of d.owner e) refl refl (later-without now d es s.1)
  where
    by : (b c : Bool) → is_due now e ≡ b → is_of d.owner e ≡ c → (find (is_due now) es ≡ Some d → filter (λ x. not (is_due now x)) (without d.owner es) ≡ filter (λ x. not (is_due now x)) es) → filter (λ x. not (is_due now x)) (without d.owner (e ∷ es)) ≡ filter (λ x. not (is_due now x)) (e ∷ es)
    by true c due own rest =
        let same : e ≡ d = cc in
        let its_own : is_of d.owner e ≡ true = rw same (grind (arith, nat_tests)) in
        let alone : IsNone (until_of d.owner es) = rw (← same) s.0 in
        rw (its_own, due) (ap (filter (λ x. not (is_due now x))) (without_absent d.owner es alone))
    by false true later own rest =
        let waits = found_waits (is_due now) d es (rw later at h) in
        let same : d.owner ≡ e.owner = grind (arith, nat_tests) in
        absurd (true≢false (sym waits ∙ rw same s.0))
    by false false later other rest = rw (other, later) (ap (λ xs. e ∷ xs) (rest (rw later at h)))

-- once nothing is due, all that wait are later
pub all_later : (now : ℕ) (ds : List Deadline) → find (is_due now) ds ≡ None → filter (λ e. not (is_due now e)) ds ≡ ds
all_later now [] h = refl
all_later now (e ∷ es) h = by (is_due now e) refl (all_later now es)
  where
    by : (b : Bool) → is_due now e ≡ b → (find (is_due now) es ≡ None → filter (λ x. not (is_due now x)) es ≡ es) → filter (λ x. not (is_due now x)) (e ∷ es) ≡ e ∷ es
    by true due rest = absurd (cc)
    by false later rest = rw later (ap (λ xs. e ∷ xs) (rest (rw later at h)))
