-- Beats in a clock.
use Rattle.std.proofs.Common.{◌≡◌, ℕ, ◌+◌, ◌<◌, ◌≤◌, Bool, true, false, cond, List, [], ◌∷◌, Option, None, Some, length, refl, ap, sym, ◌∙◌, arith, subst, eqb}
use Rattle.std.specs.List.{find}
use Rattle.std.specs.Option.{option_map}
use Rattle.std.specs.Prelude.{IsNone, IsSome}
use Rattle.std.proofs.lemmas.Bool.{eqb-true, eqb-false, eq-eqb, ne_eqb, leb-true, leb-false}
use Rattle.linger_clock.specs.declared.Deadline.{Deadline}
use Rattle.linger_clock.specs.Deadlines.{Deadlines, HasDistinctOwners, IsClock, is_due, is_of, until_of, with_deadline, without}
use Rattle.linger_clock.proofs.CallerLemmas.{length-placed, length-without, until_of-placed, until_of-without}
use Rattle.options_machine.proofs.Counts.{find_passes}
use Rattle.seat_rows.specs.Beats.{ChangesMoment}

-- what the calls of a clock change

eqb_swap : (a b : ℕ) → eqb a b ≡ eqb b a
eqb_swap a b = by (eqb b a) refl
  where
    by : (c : Bool) → eqb b a ≡ c → eqb a b ≡ eqb b a
    by true e = eq-eqb a b (sym (eqb-true b a e)) ∙ sym e
    by false e = ne_eqb a b (λ same. eqb-false b a e (sym same)) ∙ sym e

pub ChangesMoment-add : (party beat : ℕ) (old new : Deadlines) → IsClock old → IsNone (until_of party old.pairs) → new ≡ record old { pairs = with_deadline (record { owner = party; until = beat }) old.pairs } → IsClock new → ChangesMoment party (Some beat) old new
ChangesMoment-add party beat old new k none e kept = record {
  moments = λ q.
      ap (λ (c : Deadlines). until_of q c.pairs) e
      ∙ until_of-placed (record { owner = party; until = beat }) q old.pairs k.in_order none
      ∙ ap (λ (b : Bool). cond b (Some beat) (until_of q old.pairs)) (eqb_swap party q);
  room = ap (λ (c : Deadlines). c.room) e;
  clock = kept;
}

pub length-add : (party beat : ℕ) (old new : Deadlines) → IsClock old → IsNone (until_of party old.pairs) → new ≡ record old { pairs = with_deadline (record { owner = party; until = beat }) old.pairs } → length new.pairs ≡ length old.pairs + 1
length-add party beat old new k none e = ap (λ (c : Deadlines). length c.pairs) e ∙ length-placed (record { owner = party; until = beat }) old.pairs k.in_order none

pub ChangesMoment-remove : (party : ℕ) (old new : Deadlines) → new ≡ record old { pairs = without party old.pairs } → IsClock new → ChangesMoment party None old new
ChangesMoment-remove party old new e kept = record {
  moments = λ q. ap (λ (c : Deadlines). until_of q c.pairs) e ∙ until_of-without party q old.pairs;
  room = ap (λ (c : Deadlines). c.room) e;
  clock = kept;
}

pub length-remove : (party : ℕ) (old new : Deadlines) → IsClock old → IsSome (until_of party old.pairs) → new ≡ record old { pairs = without party old.pairs } → length new.pairs + 1 ≡ length old.pairs
length-remove party old new k there e = omega (arith, ap (λ (c : Deadlines). length c.pairs) e, length-without party old.pairs k.distinct there)

-- the owner of a deadline that has come

found_step : (p : Deadline → Bool) (d e : Deadline) (es : List Deadline) (b c : Bool) → p e ≡ b → is_of d.owner e ≡ c → HasDistinctOwners (e ∷ es) → find p (e ∷ es) ≡ Some d → (find p es ≡ Some d → until_of d.owner es ≡ Some d.until) → until_of d.owner (e ∷ es) ≡ Some d.until
found_step p d e es true c passes own s h rest =
    let both : Some e ≡ Some d = rw passes at h in
    let same : e ≡ d = cc in
    let self : is_of d.owner e ≡ true = eq-eqb e.owner d.owner (ap (λ (x : Deadline). x.owner) same) in
    rw self (ap (λ (x : Deadline). Some x.until) same)
found_step p d e es false true fails own s h rest =
    let later : until_of d.owner es ≡ Some d.until = rest (rw fails at h) in
    let same : e.owner ≡ d.owner = eqb-true e.owner d.owner own in
    let alone : IsNone (until_of d.owner es) = subst (λ (o : ℕ). IsNone (until_of o es)) same s.0 in
    absurd (never d.until (subst (λ (o : Option ℕ). IsNone o) later alone))
  where
    never : (u : ℕ) → IsNone (Some u) → ⊥
    never u h = cc
found_step p d e es false false fails own s h rest = rw own (rest (rw fails at h))

-- a deadline that is found has its owner's moment
found_until : (p : Deadline → Bool) (d : Deadline) (ds : List Deadline) → HasDistinctOwners ds → find p ds ≡ Some d → until_of d.owner ds ≡ Some d.until
found_until p d [] s h = let never : None ≡ Some d = h in absurd (cc)
found_until p d (e ∷ es) s h = found_step p d e es (p e) (is_of d.owner e) refl refl s h (found_until p d es s.1)

owner_cases : (o : Option Deadline) (owner : ℕ) → option_map (λ (d : Deadline). d.owner) o ≡ Some owner → (d : Deadline) × (o ≡ Some d) × (d.owner ≡ owner)
owner_cases None owner e = let never : None ≡ Some owner = e in absurd (cc)
owner_cases (Some d) owner e = let both : Some d.owner ≡ Some owner = e in (d, refl, cc)

-- the deadline that is taken out is its owner's, and has come
pub due_owner : (clock : Deadlines) (now owner : ℕ) → IsClock clock → option_map (λ (d : Deadline). d.owner) (find (is_due now) clock.pairs) ≡ Some owner → (u : ℕ) × (until_of owner clock.pairs ≡ Some u) × (u ≤ now)
due_owner clock now owner k e =
    let (d, found, same) = owner_cases (find (is_due now) clock.pairs) owner e in
    (d.until, subst (λ (n : ℕ). until_of n clock.pairs ≡ Some d.until) same (found_until (is_due now) d clock.pairs k.distinct found), leb-true d.until now (find_passes (is_due now) clock.pairs d found))

-- once none has come, all come later

later_step : (now owner u : ℕ) (e : Deadline) (es : List Deadline) (b : Bool) → is_of owner e ≡ b → find (is_due now) (e ∷ es) ≡ None → until_of owner (e ∷ es) ≡ Some u → (find (is_due now) es ≡ None → until_of owner es ≡ Some u → now < u) → now < u
later_step now owner u e es b own none h rest = by (is_due now e) refl b own
  where
    by : (c : Bool) → is_due now e ≡ c → (d : Bool) → is_of owner e ≡ d → now < u
    by true due d own = let never : Some e ≡ None = rw due at none in absurd (cc)
    by false later true own =
        let both : Some e.until ≡ Some u = rw own at h in
        let same : e.until ≡ u = cc in
        omega (arith, same, leb-false e.until now later)
    by false later false own = rest (rw later at none) (rw own at h)

later : (now owner u : ℕ) (ds : List Deadline) → find (is_due now) ds ≡ None → until_of owner ds ≡ Some u → now < u
later now owner u [] none h = let never : None ≡ Some u = h in absurd (cc)
later now owner u (e ∷ es) none h = later_step now owner u e es (is_of owner e) refl none h (later now owner u es)

none_due : (o : Option Deadline) → option_map (λ (d : Deadline). d.owner) o ≡ None → o ≡ None
none_due None e = refl
none_due (Some d) e = let never : Some d.owner ≡ None = e in absurd (cc)

pub all_later : (clock : Deadlines) (now owner u : ℕ) → option_map (λ (d : Deadline). d.owner) (find (is_due now) clock.pairs) ≡ None → until_of owner clock.pairs ≡ Some u → now < u
all_later clock now owner u e h = later now owner u clock.pairs (none_due (find (is_due now) clock.pairs) e) h
