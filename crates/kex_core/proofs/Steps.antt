-- One access, set by set, for the party that makes it.
use Rattle.std.proofs.Common.{◌≡◌, ◌≢◌, ◌⊎◌, ℕ, ◌+◌, ◌-◌, ◌<◌, ◌≤◌, true, cond, eqb, ltb, sym, refl, ap, subst, ⊎_elim, inl, inr, arith}
use Rattle.std.proofs.lemmas.Bool.Decides.{nat_tests}
use Rattle.std.proofs.lemmas.Bool.{eqb-true, eq-eqb}
use Rattle.kex_core.specs.declared.place.Place.{Place}
use Rattle.kex_core.specs.declared.place.Place.TheVariants.{Out, Dec, Mark, Look, Spin, Naming, Named, Holding, Clearing, Inc, Unmark}
use Rattle.kex_core.specs.Nets.{Plan, Valid, on_path, before}
use Rattle.kex_core.specs.Worlds.{Machine, put, due, place_past, back, value_found, after, x_after, bit_after, card_after}
use Rattle.kex_core.specs.Laws.{Stage, Placed}
use Rattle.kex_core.proofs.Thresholds.{counted_to, between_to, passed_to, below, reaches, owns, holds}
use Rattle.kex_core.proofs.Sums.{same_or, chosen, ne_test, ne_from, put_else, put_at, yes_is, no_is}
use Rattle.kex_core.proofs.Moves.{below_yes, below_no, below_le, below_same, Usual, passed_below, back_below, path_start, path_next, before_is, exit_wide}

pub split : (net : Plan) (p : ℕ) (q : Place) → (q ≡ Out) ⊎ (due net p q ≡ q)
split net p Out = inl refl
split net p (Dec j) = inr refl
split net p (Mark j) = inr refl
split net p (Look j) = inr refl
split net p (Spin j) = inr refl
split net p (Naming j) = inr refl
split net p (Named j) = inr refl
split net p (Holding j) = inr refl
split net p (Clearing j) = inr refl
split net p (Inc j) = inr refl
split net p (Unmark j) = inr refl

reach_mono : (s t i : ℕ) → (s < i → t < i) → cond (ltb t i) 0 1 ≤ cond (ltb s i) 0 1
reach_mono s t i h = grind (arith, nat_tests)

reach_none : (s i : ℕ) → s < i → reaches i (Naming s) ≡ 0
reach_none s i h = grind (arith, nat_tests)

module _ (net : Plan) (valid : Valid net) (p : ℕ) (mine : p < net.parties) where
  pub usual_counted : Usual net valid p mine (counted_to net.stages)
  usual_counted = record { out = refl; dec = λ _. refl; naming = λ _. refl; named = λ _. refl; inc = λ _. refl }

  pub usual_between : Usual net valid p mine (between_to net.stages)
  usual_between = record { out = refl; dec = λ _. refl; naming = λ _. refl; named = λ _. refl; inc = λ _. refl }

  pub usual_passed : Usual net valid p mine (passed_to net.stages)
  usual_passed = record { out = refl; dec = λ _. refl; naming = λ _. refl; named = λ _. refl; inc = λ _. refl }

  step_below : (j k : ℕ) → k ≢ j → below net p (j + 1) k ≡ below net p j k
  step_below j k d = below_same net p (j + 1) j k (λ _ h. omega arith) (λ _ h. omega arith)

  at_below : (j k : ℕ) → Stage net p j → k ≡ j → (below net p (j + 1) k ≡ 1) × (below net p j k ≡ 0)
  at_below j k s e = (below_yes net p (j + 1) k (subst (λ (i : ℕ). on_path net p i ≡ true) (sym e) s.1) (omega arith), below_no net p j k (λ _ h. absurd (omega arith)))

  pub count_local : (w : Machine) (d : Place) → Placed net p d → ((j : ℕ) → d ≡ Dec j → 0 < w.x j) → (k : ℕ) → k < net.stages
      → x_after d w.x k + below net p (counted_to net.stages (after net p d (value_found w p d))) k ≡ w.x k + below net p (counted_to net.stages d) k
  count_local w Out h z k l = refl
  count_local w (Dec j) h z k l =
      let a : below net p (counted_to net.stages (after net p (Dec j) (w.x j))) k ≡ below net p (j + 1) k =
      chosen (λ (q : Place). below net p (counted_to net.stages q) k ≡ below net p (j + 1) k) (eqb (w.x j) 1) (Mark j) (place_past net j) (λ _. refl) (λ _. passed_below net valid p mine (counted_to net.stages) usual_counted j k l h) in
      let pos : 0 < w.x j = z j refl in
      ⊎_elim (λ (e : k ≡ j). let b = at_below j k h e in let c : put w.x j (w.x j - 1) k ≡ w.x j - 1 = put_at w.x j (w.x j - 1) k e in let f : w.x k ≡ w.x j = ap w.x e in omega arith)
      (λ (e : k ≢ j). let b = step_below j k e in let c : put w.x j (w.x j - 1) k ≡ w.x k = put_else w.x j (w.x j - 1) k e in omega arith) (same_or k j)
  count_local w (Mark j) h z k l = refl
  count_local w (Look j) h z k l = ap (λ (t : ℕ). w.x k + t)
      (chosen (λ (q : Place). below net p (counted_to net.stages q) k ≡ below net p (j + 1) k) (eqb (w.x j) 0) (Spin j) (place_past net j) (λ _. refl) (λ _. passed_below net valid p mine (counted_to net.stages) usual_counted j k l h))
  count_local w (Spin j) h z k l = ap (λ (t : ℕ). w.x k + t)
      (chosen (λ (q : Place). below net p (counted_to net.stages q) k ≡ below net p (j + 1) k) (eqb (w.q j) (p + 1)) (Spin j) (place_past net j) (λ _. refl) (λ _. passed_below net valid p mine (counted_to net.stages) usual_counted j k l h))
  count_local w (Naming i) h z k l = ap (λ (t : ℕ). w.x k + t)
      (chosen (λ (q : Place). below net p (counted_to net.stages q) k ≡ below net p net.stages k) (eqb (w.bit i) 0) (Named i) (cond (eqb (i + 2) net.width) (Named (i + 1)) (Naming (i + 1))) (λ _. refl)
      (λ _. chosen (λ (q : Place). below net p (counted_to net.stages q) k ≡ below net p net.stages k) (eqb (i + 2) net.width) (Named (i + 1)) (Naming (i + 1)) (λ _. refl) (λ _. refl)))
  count_local w (Named s) h z k l = refl
  count_local w (Holding s) h z k l = ap (λ (t : ℕ). w.x k + t)
      (chosen (λ (q : Place). below net p (counted_to net.stages q) k ≡ below net p net.stages k) (eqb (s + 1) net.width) (back net p net.stages) (Clearing s)
      (λ _. back_below net valid p mine (counted_to net.stages) usual_counted net.stages k l (omega arith) h.1) (λ _. refl))
  count_local w (Clearing s) h z k l = ap (λ (t : ℕ). w.x k + t) (back_below net valid p mine (counted_to net.stages) usual_counted net.stages k l (omega arith) h.1)
  count_local w (Inc j) h z k l =
      ⊎_elim (λ (e : k ≡ j). let b = at_below j k h e in let c : put w.x j (w.x j + 1) k ≡ w.x j + 1 = put_at w.x j (w.x j + 1) k e in let f : w.x k ≡ w.x j = ap w.x e in omega arith)
      (λ (e : k ≢ j). let b = step_below j k e in let c : put w.x j (w.x j + 1) k ≡ w.x k = put_else w.x j (w.x j + 1) k e in omega arith) (same_or k j)
  count_local w (Unmark j) h z k l = ap (λ (t : ℕ). w.x k + t) (back_below net valid p mine (counted_to net.stages) usual_counted j k l (let s = h.0 in omega arith) h.1)

  -- only Unmark leaves Between
  pub between_local : (d : Place) (n : ℕ) → Placed net p d → (k : ℕ) → k < net.stages → d ≢ Unmark k
      → below net p (between_to net.stages d) k ≤ below net p (between_to net.stages (after net p d n)) k
  between_local Out n h k l u = omega arith
  between_local (Dec j) n h k l u =
      let a : below net p (between_to net.stages (after net p (Dec j) n)) k ≡ below net p (j + 1) k =
      chosen (λ (q : Place). below net p (between_to net.stages q) k ≡ below net p (j + 1) k) (eqb n 1) (Mark j) (place_past net j) (λ _. refl) (λ _. passed_below net valid p mine (between_to net.stages) usual_between j k l h) in
      let b = below_le net p j (j + 1) k (λ _ g. omega arith) in omega arith
  between_local (Mark j) n h k l u = omega arith
  between_local (Look j) n h k l u =
      let a : below net p (between_to net.stages (after net p (Look j) n)) k ≡ below net p (j + 1) k =
      chosen (λ (q : Place). below net p (between_to net.stages q) k ≡ below net p (j + 1) k) (eqb n 0) (Spin j) (place_past net j) (λ _. refl) (λ _. passed_below net valid p mine (between_to net.stages) usual_between j k l h) in omega arith
  between_local (Spin j) n h k l u =
      let a : below net p (between_to net.stages (after net p (Spin j) n)) k ≡ below net p (j + 1) k =
      chosen (λ (q : Place). below net p (between_to net.stages q) k ≡ below net p (j + 1) k) (eqb n (p + 1)) (Spin j) (place_past net j) (λ _. refl) (λ _. passed_below net valid p mine (between_to net.stages) usual_between j k l h) in omega arith
  between_local (Naming i) n h k l u =
      let a : below net p (between_to net.stages (after net p (Naming i) n)) k ≡ below net p net.stages k =
      chosen (λ (q : Place). below net p (between_to net.stages q) k ≡ below net p net.stages k) (eqb n 0) (Named i) (cond (eqb (i + 2) net.width) (Named (i + 1)) (Naming (i + 1))) (λ _. refl)
      (λ _. chosen (λ (q : Place). below net p (between_to net.stages q) k ≡ below net p net.stages k) (eqb (i + 2) net.width) (Named (i + 1)) (Naming (i + 1)) (λ _. refl) (λ _. refl)) in omega arith
  between_local (Named s) n h k l u = omega arith
  between_local (Holding s) n h k l u =
      let a : below net p (between_to net.stages (after net p (Holding s) n)) k ≡ below net p net.stages k =
      chosen (λ (q : Place). below net p (between_to net.stages q) k ≡ below net p net.stages k) (eqb (s + 1) net.width) (back net p net.stages) (Clearing s)
      (λ _. back_below net valid p mine (between_to net.stages) usual_between net.stages k l (omega arith) h.1) (λ _. refl) in omega arith
  between_local (Clearing s) n h k l u = let a = back_below net valid p mine (between_to net.stages) usual_between net.stages k l (omega arith) h.1 in omega arith
  between_local (Inc j) n h k l u = omega arith
  between_local (Unmark j) n h k l u =
      let a = back_below net valid p mine (between_to net.stages) usual_between j k l (let s = h.0 in omega arith) h.1 in
      let d : k ≢ j = λ e. u (ap Unmark (sym e)) in let b = step_below j k d in omega arith

  placed_passed : (j : ℕ) → Stage net p j → Placed net p (place_past net j)
  placed_passed j s = let o = path_next net valid p mine j s.0 s.1 in let wide = valid.wide in let high = valid.next_high j s.0 in
      chosen (Placed net p) (eqb (net.next j) net.stages) (cond (eqb net.width 1) (Named 0) (Naming 0)) (Dec (net.next j))
      (λ e. let t : on_path net p net.stages ≡ true = subst (λ (i : ℕ). on_path net p i ≡ true) (eqb-true (net.next j) net.stages e) o in
      chosen (Placed net p) (eqb net.width 1) (Named 0) (Naming 0) (λ _. (omega arith, t)) (λ f. let g = ne_from net.width 1 f in (omega arith, t)))
      (λ e. let g = ne_from (net.next j) net.stages e in (omega arith, o))

  placed_back : (j : ℕ) → j ≤ net.stages → on_path net p j ≡ true → Placed net p (back net p j)
  placed_back j l o = chosen (Placed net p) (eqb (net.start p) j) Out (Inc (before net p j)) (λ _. tt)
      (λ e. let r = before_is net valid p mine j l o (ne_from (net.start p) j e) in let b = r.2 in (omega arith, r.1))

  pub placed_local : (d : Place) (n : ℕ) → Placed net p d → Placed net p (after net p d n)
  placed_local Out n h = tt
  placed_local (Dec j) n h = chosen (Placed net p) (eqb n 1) (Mark j) (place_past net j) (λ _. h) (λ _. placed_passed j h)
  placed_local (Mark j) n h = h
  placed_local (Look j) n h = chosen (Placed net p) (eqb n 0) (Spin j) (place_past net j) (λ _. h) (λ _. placed_passed j h)
  placed_local (Spin j) n h = chosen (Placed net p) (eqb n (p + 1)) (Spin j) (place_past net j) (λ _. h) (λ _. placed_passed j h)
  placed_local (Naming i) n h = let l = h.0 in chosen (Placed net p) (eqb n 0) (Named i) (cond (eqb (i + 2) net.width) (Named (i + 1)) (Naming (i + 1))) (λ _. (omega arith, h.1))
      (λ _. chosen (Placed net p) (eqb (i + 2) net.width) (Named (i + 1)) (Naming (i + 1)) (λ _. (omega arith, h.1)) (λ e. let d = ne_from (i + 2) net.width e in (omega arith, h.1)))
  placed_local (Named s) n h = h
  placed_local (Holding s) n h = let l = h.0 in chosen (Placed net p) (eqb (s + 1) net.width) (back net p net.stages) (Clearing s) (λ _. placed_back net.stages (omega arith) h.1) (λ e. let d = ne_from (s + 1) net.width e in (omega arith, h.1))
  placed_local (Clearing s) n h = placed_back net.stages (omega arith) h.1
  placed_local (Inc j) n h = h
  placed_local (Unmark j) n h = placed_back j (let l = h.0 in omega arith) h.1

  pub placed_due : (q : Place) → Placed net p q → Placed net p (due net p q)
  placed_due Out h = chosen (Placed net p) (eqb (net.start p) net.stages) (Naming 0) (Dec (net.start p))
      (λ e. let f = eqb-true (net.start p) net.stages e in let wide = exit_wide net valid p mine f in (omega arith, subst (λ (i : ℕ). on_path net p i ≡ true) f (path_start net valid p mine)))
      (λ e. let d = ne_from (net.start p) net.stages e in let l = valid.start p mine in (omega arith, path_start net valid p mine))
  placed_due (Dec j) h = h
  placed_due (Mark j) h = h
  placed_due (Look j) h = h
  placed_due (Spin j) h = h
  placed_due (Naming j) h = h
  placed_due (Named j) h = h
  placed_due (Holding j) h = h
  placed_due (Clearing j) h = h
  placed_due (Inc j) h = h
  placed_due (Unmark j) h = h

  reach_passed : (i j : ℕ) → reaches (i + 1) (place_past net j) ≡ 0
  reach_passed i j = chosen (λ (q : Place). reaches (i + 1) q ≡ 0) (eqb (net.next j) net.stages) (cond (eqb net.width 1) (Named 0) (Naming 0)) (Dec (net.next j))
      (λ _. chosen (λ (q : Place). reaches (i + 1) q ≡ 0) (eqb net.width 1) (Named 0) (Naming 0) (λ _. reach_none 0 (i + 1) (omega arith)) (λ _. reach_none 0 (i + 1) (omega arith))) (λ _. refl)

  reach_back : (i j : ℕ) → reaches i (back net p j) ≡ 0
  reach_back i j = chosen (λ (q : Place). reaches i q ≡ 0) (eqb (net.start p) j) Out (Inc (before net p j)) (λ _. refl) (λ _. refl)

  -- past position i one comes by the test of bit i alone, where it was set
  pub reach_local : (i : ℕ) (d : Place) (n : ℕ) → (d ≡ Naming i → n ≡ 0) → reaches (i + 1) (after net p d n) ≤ reaches (i + 1) d
  reach_local i Out n h = omega arith
  reach_local i (Dec j) n h = chosen (λ (q : Place). reaches (i + 1) q ≤ 0) (eqb n 1) (Mark j) (place_past net j) (λ _. omega arith) (λ _. let a = reach_passed i j in omega arith)
  reach_local i (Mark j) n h = omega arith
  reach_local i (Look j) n h = chosen (λ (q : Place). reaches (i + 1) q ≤ 0) (eqb n 0) (Spin j) (place_past net j) (λ _. omega arith) (λ _. let a = reach_passed i j in omega arith)
  reach_local i (Spin j) n h = chosen (λ (q : Place). reaches (i + 1) q ≤ 0) (eqb n (p + 1)) (Spin j) (place_past net j) (λ _. omega arith) (λ _. let a = reach_passed i j in omega arith)
  reach_local i (Naming s) n h = chosen (λ (q : Place). reaches (i + 1) q ≤ cond (ltb s (i + 1)) 0 1) (eqb n 0) (Named s) (cond (eqb (s + 2) net.width) (Named (s + 1)) (Naming (s + 1))) (λ _. omega arith)
      (λ e. let d : s ≢ i = λ f. ne_from n 0 e (h (ap Naming f)) in let a = reach_mono s (s + 1) (i + 1) (λ g. omega arith) in
      chosen (λ (q : Place). reaches (i + 1) q ≤ cond (ltb s (i + 1)) 0 1) (eqb (s + 2) net.width) (Named (s + 1)) (Naming (s + 1)) (λ _. a) (λ _. a))
  reach_local i (Named s) n h = omega arith
  reach_local i (Holding s) n h = chosen (λ (q : Place). reaches (i + 1) q ≤ cond (ltb s (i + 1)) 0 1) (eqb (s + 1) net.width) (back net p net.stages) (Clearing s) (λ _. let a = reach_back (i + 1) net.stages in omega arith) (λ _. omega arith)
  reach_local i (Clearing s) n h = let a = reach_back (i + 1) net.stages in omega arith
  reach_local i (Inc j) n h = omega arith
  reach_local i (Unmark j) n h = let a = reach_back (i + 1) j in omega arith

  owns_passed : (k j : ℕ) → k + 1 < net.width → owns k (place_past net j) ≡ 0
  owns_passed k j l = chosen (λ (q : Place). owns k q ≡ 0) (eqb (net.next j) net.stages) (cond (eqb net.width 1) (Named 0) (Naming 0)) (Dec (net.next j))
      (λ _. chosen (λ (q : Place). owns k q ≡ 0) (eqb net.width 1) (Named 0) (Naming 0) (λ e. let f = eqb-true net.width 1 e in absurd (omega arith)) (λ _. refl)) (λ _. refl)

  owns_back : (k j : ℕ) → owns k (back net p j) ≡ 0
  owns_back k j = chosen (λ (q : Place). owns k q ≡ 0) (eqb (net.start p) j) Out (Inc (before net p j)) (λ _. refl) (λ _. refl)

  holds_passed : (k j : ℕ) → holds k (place_past net j) ≡ 0
  holds_passed k j = chosen (λ (q : Place). holds k q ≡ 0) (eqb (net.next j) net.stages) (cond (eqb net.width 1) (Named 0) (Naming 0)) (Dec (net.next j))
      (λ _. chosen (λ (q : Place). holds k q ≡ 0) (eqb net.width 1) (Named 0) (Naming 0) (λ _. refl) (λ _. refl)) (λ _. refl)

  holds_back : (k j : ℕ) → holds k (back net p j) ≡ 0
  holds_back k j = chosen (λ (q : Place). holds k q ≡ 0) (eqb (net.start p) j) Out (Inc (before net p j)) (λ _. refl) (λ _. refl)

  pub owns_local : (w : Machine) (d : Place) (k : ℕ) → k + 1 < net.width → w.bit k ≤ 1 → owns k d ≤ w.bit k
      → owns k (after net p d (value_found w p d)) + w.bit k ≡ owns k d + bit_after d w.bit k
  owns_local w Out k l b o = refl
  owns_local w (Dec j) k l b o = ap (λ (t : ℕ). t + w.bit k) (chosen (λ (q : Place). owns k q ≡ 0) (eqb (w.x j) 1) (Mark j) (place_past net j) (λ _. refl) (λ _. owns_passed k j l))
  owns_local w (Mark j) k l b o = refl
  owns_local w (Look j) k l b o = ap (λ (t : ℕ). t + w.bit k) (chosen (λ (q : Place). owns k q ≡ 0) (eqb (w.x j) 0) (Spin j) (place_past net j) (λ _. refl) (λ _. owns_passed k j l))
  owns_local w (Spin j) k l b o = ap (λ (t : ℕ). t + w.bit k) (chosen (λ (q : Place). owns k q ≡ 0) (eqb (w.q j) (p + 1)) (Spin j) (place_past net j) (λ _. refl) (λ _. owns_passed k j l))
  owns_local w (Naming i) k l b o = ⊎_elim
      (λ (e : k ≡ i). let c = put_at w.bit i 1 k e in let f : w.bit k ≡ w.bit i = ap w.bit e in
      chosen (λ (q : Place). owns k q + w.bit k ≡ 0 + put w.bit i 1 k) (eqb (w.bit i) 0) (Named i) (cond (eqb (i + 2) net.width) (Named (i + 1)) (Naming (i + 1)))
      (λ t. let z = eqb-true (w.bit i) 0 t in let y = yes_is (eqb i k) 1 0 (eq-eqb i k (sym e)) in omega arith)
      (λ t. let z = ne_from (w.bit i) 0 t in let y = none i k (omega arith) in omega arith))
      (λ (e : k ≢ i). let c = put_else w.bit i 1 k e in
      chosen (λ (q : Place). owns k q + w.bit k ≡ 0 + put w.bit i 1 k) (eqb (w.bit i) 0) (Named i) (cond (eqb (i + 2) net.width) (Named (i + 1)) (Naming (i + 1)))
      (λ t. let y = no_is (eqb i k) 1 0 (ne_test i k (λ f. e (sym f))) in omega arith)
      (λ t. let y = none i k l in omega arith)) (same_or k i)
    where
      none : (i k : ℕ) → k + 1 < net.width → owns k (cond (eqb (i + 2) net.width) (Named (i + 1)) (Naming (i + 1))) ≡ 0
      none i k l = chosen (λ (q : Place). owns k q ≡ 0) (eqb (i + 2) net.width) (Named (i + 1)) (Naming (i + 1)) (λ t. let z = eqb-true (i + 2) net.width t in no_is (eqb (i + 1) k) 1 0 (ne_test (i + 1) k (λ f. omega arith))) (λ _. refl)
  owns_local w (Named s) k l b o = refl
  owns_local w (Holding s) k l b o = chosen (λ (q : Place). owns k q + w.bit k ≡ cond (eqb s k) 1 0 + w.bit k) (eqb (s + 1) net.width) (back net p net.stages) (Clearing s)
      (λ t. let z = eqb-true (s + 1) net.width t in let a = owns_back k net.stages in let y = no_is (eqb s k) 1 0 (ne_test s k (λ f. omega arith)) in omega arith) (λ _. refl)
  owns_local w (Clearing s) k l b o = let a = owns_back k net.stages in ⊎_elim
      (λ (e : k ≡ s). let c = put_at w.bit s 0 k e in let y = yes_is (eqb s k) 1 0 (eq-eqb s k (sym e)) in omega arith)
      (λ (e : k ≢ s). let c = put_else w.bit s 0 k e in let y = no_is (eqb s k) 1 0 (ne_test s k (λ f. e (sym f))) in omega arith) (same_or k s)
  owns_local w (Inc j) k l b o = refl
  owns_local w (Unmark j) k l b o = ap (λ (t : ℕ). t + w.bit k) (owns_back k j)

  pub holds_local : (w : Machine) (d : Place) (k : ℕ) → (d ≡ Named k → w.card k ≡ 0) → holds k d ≤ w.card k → w.card k ≤ 1
      → holds k (after net p d (value_found w p d)) + w.card k ≡ holds k d + card_after d w.card k
  holds_local w Out k n o l = refl
  holds_local w (Dec j) k n o l = ap (λ (t : ℕ). t + w.card k) (chosen (λ (q : Place). holds k q ≡ 0) (eqb (w.x j) 1) (Mark j) (place_past net j) (λ _. refl) (λ _. holds_passed k j))
  holds_local w (Mark j) k n o l = refl
  holds_local w (Look j) k n o l = ap (λ (t : ℕ). t + w.card k) (chosen (λ (q : Place). holds k q ≡ 0) (eqb (w.x j) 0) (Spin j) (place_past net j) (λ _. refl) (λ _. holds_passed k j))
  holds_local w (Spin j) k n o l = ap (λ (t : ℕ). t + w.card k) (chosen (λ (q : Place). holds k q ≡ 0) (eqb (w.q j) (p + 1)) (Spin j) (place_past net j) (λ _. refl) (λ _. holds_passed k j))
  holds_local w (Naming i) k n o l = ap (λ (t : ℕ). t + w.card k) (chosen (λ (q : Place). holds k q ≡ 0) (eqb (w.bit i) 0) (Named i) (cond (eqb (i + 2) net.width) (Named (i + 1)) (Naming (i + 1))) (λ _. refl)
      (λ _. chosen (λ (q : Place). holds k q ≡ 0) (eqb (i + 2) net.width) (Named (i + 1)) (Naming (i + 1)) (λ _. refl) (λ _. refl)))
  holds_local w (Named s) k n o l = ⊎_elim
      (λ (e : k ≡ s). let c = put_at w.card s 1 k e in let y = yes_is (eqb s k) 1 0 (eq-eqb s k (sym e)) in let z = n (ap Named (sym e)) in omega arith)
      (λ (e : k ≢ s). let c = put_else w.card s 1 k e in let y = no_is (eqb s k) 1 0 (ne_test s k (λ f. e (sym f))) in omega arith) (same_or k s)
  holds_local w (Holding s) k n o l =
      let a : holds k (after net p (Holding s) (w.card s)) ≡ 0 = chosen (λ (q : Place). holds k q ≡ 0) (eqb (s + 1) net.width) (back net p net.stages) (Clearing s) (λ _. holds_back k net.stages) (λ _. refl) in ⊎_elim
      (λ (e : k ≡ s). let c = put_at w.card s 0 k e in let y = yes_is (eqb s k) 1 0 (eq-eqb s k (sym e)) in omega arith)
      (λ (e : k ≢ s). let c = put_else w.card s 0 k e in let y = no_is (eqb s k) 1 0 (ne_test s k (λ f. e (sym f))) in omega arith) (same_or k s)
  holds_local w (Clearing s) k n o l = ap (λ (t : ℕ). t + w.card k) (holds_back k net.stages)
  holds_local w (Inc j) k n o l = refl
  holds_local w (Unmark j) k n o l = ap (λ (t : ℕ). t + w.card k) (holds_back k j)
