-- What a clock's deadlines tell of their owners.
use Rattle.std.proofs.Common.{◌≡◌, ℕ, ◌<◌, Bool, true, false, List, [], ◌∷◌, Option, None, Some, find, refl, ap, arith, subst}
use Rattle.std.specs.Option.{option_map}
use Rattle.std.specs.Prelude.{IsNone}
use Rattle.std.proofs.lemmas.Bool.{eqb-true, eq-eqb, leb-false}
use Rattle.linger_clock.specs.declared.Deadline.{Deadline}
use Rattle.linger_clock.specs.Deadlines.{HasDistinctOwners, is_due, is_of, until_of}

found_step : (p : Deadline → Bool) (d e : Deadline) (es : List Deadline) (b c : Bool) → p e ≡ b → is_of d.owner e ≡ c → HasDistinctOwners (e ∷ es) → find p (e ∷ es) ≡ Some d → (find p es ≡ Some d → until_of d.owner es ≡ Some d.until) → until_of d.owner (e ∷ es) ≡ Some d.until
found_step p d e es true c passes own s h rest =
    let both : Some e ≡ Some d = rw passes at h in
    let same : e ≡ d = cc in
    let self : is_of d.owner e ≡ true = eq-eqb e.owner d.owner (ap (λ (x : Deadline). x.owner) same) in
    rw self (ap (λ (x : Deadline). Some x.until) same)
found_step p d e es false true fails own s h rest =
    let later : until_of d.owner es ≡ Some d.until = rest (rw fails at h) in
    let same : e.owner ≡ d.owner = eqb-true e.owner d.owner own in
    let alone : IsNone (until_of d.owner es) = subst (λ (o : ℕ). IsNone (until_of o es)) same s.0 in
    absurd (some_not_none d.until (subst (λ (o : Option ℕ). IsNone o) later alone))
  where
    some_not_none : (u : ℕ) → IsNone (Some u) → ⊥
    some_not_none u h = cc
found_step p d e es false false fails own s h rest = rw own (rest (rw fails at h))

-- a deadline that is found has its owner's moment
pub found_until : (p : Deadline → Bool) (d : Deadline) (ds : List Deadline) → HasDistinctOwners ds → find p ds ≡ Some d → until_of d.owner ds ≡ Some d.until
found_until p d [] s h = let never : None ≡ Some d = h in absurd (cc)
found_until p d (e ∷ es) s h = found_step p d e es (p e) (is_of d.owner e) refl refl s h (found_until p d es s.1)

not_due_step : (now owner u : ℕ) (e : Deadline) (es : List Deadline) (b : Bool) → is_of owner e ≡ b → find (is_due now) (e ∷ es) ≡ None → until_of owner (e ∷ es) ≡ Some u → (find (is_due now) es ≡ None → until_of owner es ≡ Some u → now < u) → now < u
not_due_step now owner u e es b own none h rest = by (is_due now e) refl b own
  where
    by : (c : Bool) → is_due now e ≡ c → (d : Bool) → is_of owner e ≡ d → now < u
    by true due d own = let never : Some e ≡ None = rw due at none in absurd (cc)
    by false later true own =
        let both : Some e.until ≡ Some u = rw own at h in
        let same : e.until ≡ u = cc in
        omega (arith, same, leb-false e.until now later)
    by false later false own = rest (rw later at none) (rw own at h)

-- where no deadline has come, each owner's moment is later
pub not_due : (now owner u : ℕ) (ds : List Deadline) → find (is_due now) ds ≡ None → until_of owner ds ≡ Some u → now < u
not_due now owner u [] none h = let never : None ≡ Some u = h in absurd (cc)
not_due now owner u (e ∷ es) none h = not_due_step now owner u e es (is_of owner e) refl none h (not_due now owner u es)

-- the deadline whose owner is given
pub owner_found : (o : Option Deadline) (at : ℕ) → option_map (λ (d : Deadline). d.owner) o ≡ Some at → (d : Deadline) × (o ≡ Some d) × (d.owner ≡ at)
owner_found None at e = let never : None ≡ Some at = e in absurd (cc)
owner_found (Some d) at e = let both : Some d.owner ≡ Some at = e in (d, refl, cc)

pub no_owner : (o : Option Deadline) → option_map (λ (d : Deadline). d.owner) o ≡ None → o ≡ None
no_owner None e = refl
no_owner (Some d) e = let never : Some d.owner ≡ None = e in absurd (cc)
