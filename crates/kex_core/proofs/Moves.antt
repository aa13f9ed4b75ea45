-- What one access does to the place of its party, set by set.
use Rattle.std.proofs.Common.{◌≡◌, ◌≢◌, ◌⊎◌, ℕ, zero, suc, ◌+◌, ◌<◌, ◌≤◌, Bool, true, false, cond, eqb, ltb, ◌&&◌, sym, refl, ap, ◌∙◌, subst, ⊎_elim, inl, inr, arith}
use Rattle.std.proofs.lemmas.Bool.{false_from_ne_true, and_from, lt-ltb, ltb-true, eqb-true, eq-eqb}
use Rattle.kex_core.specs.declared.place.Place.{Place}
use Rattle.kex_core.specs.declared.place.Place.TheVariants.{Out, Dec, Naming, Named, Inc}
use Rattle.kex_core.specs.Nets.{Plan, Valid, starts, feeds, on_path, before}
use Rattle.kex_core.specs.Worlds.{due, place_past, back}
use Rattle.kex_core.specs.Laws.{Stage}
use Rattle.kex_core.proofs.Thresholds.{starts_at, feeds_at, below}
use Rattle.kex_core.proofs.Sums.{chosen, ne_from, yes_is, over_has, over_two}
use Rattle.kex_core.proofs.Paths.{visit_le, visit_enough, visit_next, visit_gap, visit_here, walk_is, and_left, and_right}

fits : (b c : Bool) → (b ≡ true → c ≡ true) → cond b 1 0 ≤ cond c 1 0
fits true c h = subst (λ (z : Bool). 1 ≤ cond z 1 0) (sym (h refl)) (omega arith)
fits false c h = omega arith

module _ (net : Plan) (p : ℕ) where
  pub below_yes : (t k : ℕ) → on_path net p k ≡ true → k < t → below net p t k ≡ 1
  below_yes t k o l = ap (λ (b : Bool). cond b 1 0) (and_from (on_path net p k) (ltb k t) o (lt-ltb k t l))

  pub below_no : (t k : ℕ) → (on_path net p k ≡ true → k < t → ⊥) → below net p t k ≡ 0
  below_no t k h = ap (λ (b : Bool). cond b 1 0) (false_from_ne_true (on_path net p k && ltb k t) (λ e. h (and_left (on_path net p k) (ltb k t) e) (ltb-true k t (and_right (on_path net p k) (ltb k t) e))))

  pub below_le : (t u k : ℕ) → (on_path net p k ≡ true → k < t → k < u) → below net p t k ≤ below net p u k
  below_le t u k h = fits (on_path net p k && ltb k t) (on_path net p k && ltb k u)
      (λ e. let o = and_left (on_path net p k) (ltb k t) e in and_from (on_path net p k) (ltb k u) o (lt-ltb k u (h o (ltb-true k t (and_right (on_path net p k) (ltb k t) e)))))

  pub below_same : (t u k : ℕ) → (on_path net p k ≡ true → k < t → k < u) → (on_path net p k ≡ true → k < u → k < t) → below net p t k ≡ below net p u k
  below_same t u k h g = let a = below_le t u k h in let b = below_le u t k g in omega arith

  pub below_is : (t k : ℕ) → 0 < below net p t k → (on_path net p k ≡ true) × (k < t)
  below_is t k h = go (on_path net p k && ltb k t) refl
    where
      go : (b : Bool) → (on_path net p k && ltb k t) ≡ b → (on_path net p k ≡ true) × (k < t)
      go true e = (and_left (on_path net p k) (ltb k t) e, ltb-true k t (and_right (on_path net p k) (ltb k t) e))
      go false e = let z : below net p t k ≡ 0 = ap (λ (b : Bool). cond b 1 0) e in absurd (omega arith)

  pub below_one : (t k : ℕ) → below net p t k ≤ 1
  below_one t k = fits (on_path net p k && ltb k t) true (λ _. refl)

module _ (net : Plan) (valid : Valid net) (p : ℕ) (mine : p < net.parties) where
  pub start_low : (j : ℕ) → j ≤ net.stages → on_path net p j ≡ true → net.start p ≤ j
  start_low j l o = visit_le net.next net.stages valid.next_low net.stages (net.start p) j l o

  pub path_start : on_path net p (net.start p) ≡ true
  path_start = visit_here net.next net.stages (net.start p) (net.start p) refl

  pub path_next : (j : ℕ) → j < net.stages → on_path net p j ≡ true → on_path net p (net.next j) ≡ true
  path_next j l o = visit_enough net.next net.stages valid.next_low (suc net.stages) net.stages (net.start p) (net.next j) (valid.next_high j l) (let h = valid.next_high j l in omega arith)
      (visit_next net.next net.stages valid.next_low net.stages (net.start p) j l o)

  pub path_gap : (j k : ℕ) → k ≤ net.stages → on_path net p j ≡ true → on_path net p k ≡ true → j < k → net.next j ≤ k
  path_gap j k l o u lt = visit_gap net.next net.stages valid.next_low net.stages net.stages (net.start p) j k l o u lt

  pub before_is : (j : ℕ) → j ≤ net.stages → on_path net p j ≡ true → net.start p ≢ j → (net.next (before net p j) ≡ j) × (on_path net p (before net p j) ≡ true) × (before net p j < j)
  before_is j l o d = walk_is net.next net.stages valid.next_low net.stages (net.start p) j l o d

  -- below the next of j are the stages up to j
  pub next_below : (j k : ℕ) → k < net.stages → j < net.stages → on_path net p j ≡ true → below net p (net.next j) k ≡ below net p (j + 1) k
  next_below j k l s o = below_same net p (net.next j) (j + 1) k
      (λ u h. ⊎_elim (λ (a : j < k). let g = path_gap j k (omega arith) o u a in absurd (omega arith)) (λ (b : k ≤ j). omega arith) (cases j k))
      (λ u h. let g = valid.next_low j s in omega arith)
    where
      cases : (j k : ℕ) → (j < k) ⊎ (k ≤ j)
      cases j k = grind arith

  module _ (to : Place → ℕ) where
    pub record Usual : Type 0 where
      pub out : to Out ≡ 0
      pub dec : (i : ℕ) → to (Dec i) ≡ i
      pub naming : (i : ℕ) → to (Naming i) ≡ net.stages
      pub named : (i : ℕ) → to (Named i) ≡ net.stages
      pub inc : (i : ℕ) → to (Inc i) ≡ i + 1

    pub passed_below : Usual → (j k : ℕ) → k < net.stages → Stage net p j → below net p (to (place_past net j)) k ≡ below net p (j + 1) k
    passed_below u j k l s = ap (λ (t : ℕ). below net p t k) same ∙ next_below j k l s.0 s.1
      where
        same : to (place_past net j) ≡ net.next j
        same = chosen (λ (q : Place). to q ≡ net.next j) (eqb (net.next j) net.stages) (cond (eqb net.width 1) (Named 0) (Naming 0)) (Dec (net.next j))
            (λ e. chosen (λ (q : Place). to q ≡ net.next j) (eqb net.width 1) (Named 0) (Naming 0) (λ _. u.named 0 ∙ sym (eqb-true (net.next j) net.stages e)) (λ _. u.naming 0 ∙ sym (eqb-true (net.next j) net.stages e)))
            (λ _. u.dec (net.next j))

    pub back_below : Usual → (j k : ℕ) → k < net.stages → j ≤ net.stages → on_path net p j ≡ true → below net p (to (back net p j)) k ≡ below net p j k
    back_below u j k l s o = chosen (λ (q : Place). below net p (to q) k ≡ below net p j k) (eqb (net.start p) j) Out (Inc (before net p j))
        (λ e. let f = eqb-true (net.start p) j e in ap (λ (t : ℕ). below net p t k) u.out ∙ below_same net p 0 j k (λ _ h. absurd (omega arith)) (λ g h. let z = start_low k (omega arith) g in absurd (omega arith)))
        (λ e. let r = before_is j s o (ne_from (net.start p) j e) in ap (λ (t : ℕ). below net p t k) (u.inc (before net p j)) ∙ (sym (next_below (before net p j) k l (let z = r.2 in omega arith) r.1) ∙ ap (λ (t : ℕ). below net p t k) r.0))

    pub due_below : Usual → ((q : Place) → (q ≡ Out) ⊎ (due net p q ≡ q)) → (q : Place) (k : ℕ) → k < net.stages → below net p (to (due net p q)) k ≡ below net p (to q) k
    due_below u split q k l = ⊎_elim
        (λ (e : q ≡ Out). subst (λ (r : Place). below net p (to (due net p r)) k ≡ below net p (to r) k) (sym e)
        (chosen (λ (r : Place). below net p (to r) k ≡ below net p (to Out) k) (eqb (net.start p) net.stages) (Naming 0) (Dec (net.start p))
        (λ f. ap (λ (t : ℕ). below net p t k) (u.naming 0 ∙ sym (eqb-true (net.start p) net.stages f)) ∙ none k l) (λ _. ap (λ (t : ℕ). below net p t k) (u.dec (net.start p)) ∙ none k l)))
        (λ (e : due net p q ≡ q). ap (λ (r : Place). below net p (to r) k) e) (split q)
      where
        none : (k : ℕ) → k < net.stages → below net p (net.start p) k ≡ below net p (to Out) k
        none k l = below_same net p (net.start p) (to Out) k (λ g h. let z = start_low k (omega arith) g in absurd (omega arith)) (λ g h. let z = u.out in absurd (omega arith))

  -- where a party of Exit is, there are at least two names
  pub exit_wide : net.start p ≡ net.stages → 1 < net.width
  exit_wide e = ⊎_elim (λ (a : 1 < net.width). a) (λ (b : net.width ≤ 1). absurd (no b)) (cases net.width)
    where
      cases : (m : ℕ) → (1 < m) ⊎ (m ≤ 1)
      cases m = grind arith

      one : (j : ℕ) → net.start p ≡ j → 1 ≤ starts net j
      one j e = let a : starts_at net p j ≤ starts net j = over_has net.parties (λ (q : ℕ). starts_at net q j) p mine in let b : starts_at net p j ≡ 1 = yes_is (eqb (net.start p) j) 1 0 (eq-eqb (net.start p) j e) in omega arith

      another : (s q : ℕ) → net.stages ≡ s → q < net.parties → q ≢ p → (net.start q ≡ net.stages) ⊎ (1 ≤ feeds net net.stages)
      another zero q z l d = inl (let h = valid.start q l in omega arith)
      another (suc s) q z l d = inr (
          let a : feeds_at net s net.stages ≤ feeds net net.stages = over_has net.stages (λ (i : ℕ). feeds_at net i net.stages) s (omega arith) in
          let t : net.next s ≡ net.stages = let f = valid.next_low s (omega arith) in let g = valid.next_high s (omega arith) in omega arith in
          let b : feeds_at net s net.stages ≡ net.cap s = yes_is (eqb (net.next s) net.stages) (net.cap s) 0 (eq-eqb (net.next s) net.stages t) in
          let c = valid.cap s (omega arith) in omega arith)

      other : (p : ℕ) → (q : ℕ) × (q < 2) × (q ≢ p)
      other zero = (1, omega arith, omega arith)
      other (suc p) = (0, omega arith, omega arith)

      no : net.width ≤ 1 → ⊥
      no b = let o = other p in let w = valid.two in let l : o.0 < net.parties = let z = o.1 in omega arith in ⊎_elim
          (λ (f : net.start (o.0) ≡ net.stages).
          let t : starts_at net (o.0) net.stages + starts_at net p net.stages ≤ starts net net.stages = over_two net.parties (λ (q : ℕ). starts_at net q net.stages) (o.0) p l mine (o.2) in
          let c : starts_at net p net.stages ≡ 1 = yes_is (eqb (net.start p) net.stages) 1 0 (eq-eqb (net.start p) net.stages e) in
          let d : starts_at net (o.0) net.stages ≡ 1 = yes_is (eqb (net.start (o.0)) net.stages) 1 0 (eq-eqb (net.start (o.0)) net.stages f) in
          let r = valid.room_exit in omega arith)
          (λ (g : 1 ≤ feeds net net.stages). let t = one net.stages e in let r = valid.room_exit in omega arith)
          (another net.stages (o.0) refl l (o.2))
