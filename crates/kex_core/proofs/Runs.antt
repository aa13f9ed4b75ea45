-- The laws at the opening, after every schedule, and what they give.
use Rattle.std.proofs.Common.{◌≤◌, ◌≡◌, ◌≢◌, ℕ, ◌+◌, ◌<◌, cond, eqb, ltb, List, [], ◌∷◌, sym, refl, ap, ◌∙◌, subst, ⊎_elim, arith}
use Rattle.kex_core.specs.declared.place.Place.{Place}
use Rattle.kex_core.specs.declared.place.Place.TheVariants.{Out, Dec, Mark, Look, Spin, Naming, Named, Holding, Clearing, Inc, Unmark}
use Rattle.kex_core.specs.Nets.{Plan, Valid, over}
use Rattle.kex_core.specs.Worlds.{Machine, due, row, machine_after_access, move, run, opening, Parties}
use Rattle.kex_core.specs.Sets.{held_at}
use Rattle.kex_core.specs.Laws.{Placed, Kept, Safe}
use Rattle.kex_core.proofs.Thresholds.{below, holds, reaches, KeptTo}
use Rattle.std.proofs.lemmas.Bool.Decides.{nat_tests}
use Rattle.std.specs.Prelude.{Some, is_some}
use Rattle.std.proofs.lemmas.Bool.{lt-ltb, eq-eqb}
use Rattle.kex_core.proofs.Sums.{same_or, yes_is, over_same, over_two, over_zero, over_le}
use Rattle.kex_core.proofs.Moves.{below_no}
use Rattle.kex_core.proofs.Bounds.{through_le}
use Rattle.kex_core.proofs.Keeps.{base_of, kept_step}
use Rattle.kex_core.proofs.Readings.{size_passed, kept_to, kept_from}

module _ (net : Plan) where
  none_to : (j : ℕ) → over net.parties (λ p. below net p 0 j) ≡ 0
  none_to j = over_same net.parties (λ (p : ℕ). below net p 0 j) (λ _. 0) (λ p _. below_no net p 0 j (λ _ h. absurd (omega arith))) ∙ over_zero net.parties

  opening_to : KeptTo net (opening net)
  opening_to = record {
    placed = λ p _. tt;
    counters = λ j l. let z = none_to j in let y = yes_is (ltb j net.stages) (net.cap j + 1) 0 (lt-ltb j net.stages l) in omega arith;
    within = λ j _. let z = none_to j in omega arith;
    inside = let z = over_zero net.parties in omega arith;
    watched = λ j l h. let y = yes_is (ltb j net.stages) (net.cap j + 1) 0 (lt-ltb j net.stages l) in absurd (omega arith);
    waits = λ p j _ e _. absurd (cc);
    names = λ i l. let z = over_zero net.parties in omega arith;
    bits = λ i _. over_zero net.parties;
    bit_small = λ i _. omega arith;
    cards = λ s _. over_zero net.parties;
    card_small = λ s _. omega arith;
  }

  pub kept_opening : Kept net (opening net)
  kept_opening = kept_from net (opening net) opening_to

  -- a row of the listing, word by word
  pub row_is : (w : Machine) (p : ℕ) (d : Place) → row net w p d ≡ machine_after_access net w p d
  row_is w p Out = refl
  row_is w p (Dec j) = refl
  row_is w p (Mark j) = refl
  row_is w p (Look j) = refl
  row_is w p (Spin j) = refl
  row_is w p (Naming i) = refl
  row_is w p (Named s) = refl
  row_is w p (Holding s) = refl
  row_is w p (Clearing s) = refl
  row_is w p (Inc j) = refl
  row_is w p (Unmark j) = refl

  pub kept_move : Valid net → (w : Machine) → Kept net w → (p : ℕ) → p < net.parties → Kept net (move net w p)
  kept_move valid w kept p mine = subst (Kept net) (sym (row_is w p (due net p (w.place p)))) (kept_from net (machine_after_access net w p (due net p (w.place p))) (kept_step net valid w (kept_to net w kept) p mine))

  pub kept_run : Valid net → (ps : List ℕ) (w : Machine) → Parties net ps → Kept net w → Kept net (run net ps w)
  kept_run valid [] w h kept = kept
  kept_run valid (p ∷ ps) w h kept = kept_run valid ps (move net w p) h.1 (kept_move valid w kept p h.0)

  held_is : (d : Place) (s : ℕ) → held_at d ≡ Some s → d ≡ Holding s
  held_is (Holding t) s e = ap Holding (some_is t s e)
    where
      some_is : (t s : ℕ) → held_at (Holding t) ≡ Some s → t ≡ s
      some_is t s e = cc
  held_is Out s e = absurd (cc)
  held_is (Dec j) s e = absurd (cc)
  held_is (Mark j) s e = absurd (cc)
  held_is (Look j) s e = absurd (cc)
  held_is (Spin j) s e = absurd (cc)
  held_is (Naming j) s e = absurd (cc)
  held_is (Named j) s e = absurd (cc)
  held_is (Clearing j) s e = absurd (cc)
  held_is (Inc j) s e = absurd (cc)
  held_is (Unmark j) s e = absurd (cc)

  has_reach : (d : Place) → cond (is_some (held_at d)) 1 0 ≤ reaches 0 d
  has_reach (Holding t) = one t
    where
      one : (t : ℕ) → 1 ≤ reaches 0 (Holding t)
      one t = grind (arith, nat_tests)
  has_reach Out = omega arith
  has_reach (Dec j) = omega arith
  has_reach (Mark j) = omega arith
  has_reach (Look j) = omega arith
  has_reach (Spin j) = omega arith
  has_reach (Naming j) = omega arith
  has_reach (Named j) = omega arith
  has_reach (Clearing j) = omega arith
  has_reach (Inc j) = omega arith
  has_reach (Unmark j) = omega arith

  pub safe_of : Valid net → (w : Machine) → Kept net w → Safe net w
  safe_of valid w kept = record {
    passed = λ j l. let a = size_passed net w kept.placed j l in let b = through_le net valid w (base_of net w (kept_to net w kept)) j l in omega arith;
    inside = kept.inside;
    assigned = record {
      few = let a = over_le net.parties (λ (p : ℕ). cond (is_some (held_at (w.place p))) 1 0) (λ (p : ℕ). reaches 0 (w.place p)) (λ p _. has_reach (w.place p)) in let b = (kept_to net w kept).inside in omega arith;
      low = λ p s l e. low p s l (held_is (w.place p) s e);
      apart = λ p q s l m e f. apart p q s l m (held_is (w.place p) s e) (held_is (w.place q) s f);
    };
    waits = kept.waits;
  }
    where
      low : (p s : ℕ) → p < net.parties → w.place p ≡ Holding s → s < net.width
      low p s l e = (holding p s e (kept.placed p l)).0
        where
          holding : (p s : ℕ) → w.place p ≡ Holding s → Placed net p (w.place p) → Placed net p (Holding s)
          holding p s e h = subst (Placed net p) e h

      at_one : (p s : ℕ) → w.place p ≡ Holding s → holds s (w.place p) ≡ 1
      at_one p s e = ap (holds s) e ∙ yes_is (eqb s s) 1 0 (eq-eqb s s refl)

      apart : (p q s : ℕ) → p < net.parties → q < net.parties → w.place p ≡ Holding s → w.place q ≡ Holding s → p ≡ q
      apart p q s l m e f = ⊎_elim (λ (i : p ≡ q). i)
          (λ (d : p ≢ q). let t = over_two net.parties (λ (r : ℕ). holds s (w.place r)) p q l m d in let a = at_one p s e in let b = at_one q s f in
          let s_low = low p s l e in let c = (kept_to net w kept).cards s s_low in let g = kept.card_small s s_low in absurd (omega arith)) (same_or p q)

  pub safe_run : Valid net → (ps : List ℕ) → Parties net ps → Safe net (run net ps (opening net))
  safe_run valid ps h = safe_of valid (run net ps (opening net)) (kept_run valid ps (opening net) h kept_opening)
