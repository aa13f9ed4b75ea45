-- Each access but a read of Q costs one, and the place bounds what was spent.
use Rattle.std.proofs.Common.{◌≡◌, ◌≢◌, ◌⊎◌, ℕ, ◌+◌, ◌-◌, ◌*◌, ◌<◌, ◌≤◌, true, cond, eqb, min, refl, ap, ◌∙◌, ⊎_elim, inl, inr, arith}
use Rattle.std.proofs.lemmas.Bool.{eqb-true}
use Rattle.kex_core.specs.declared.place.Place.{Place}
use Rattle.kex_core.specs.declared.place.Place.TheVariants.{Out, Dec, Mark, Look, Spin, Naming, Named, Holding, Clearing, Inc, Unmark}
use Rattle.kex_core.specs.Nets.{Plan, Valid, on_path, before}
use Rattle.kex_core.specs.Worlds.{due, place_past, back, after}
use Rattle.kex_core.specs.Laws.{Stage, Placed}
use Rattle.kex_core.specs.Costs.{rank, depth, cost, bound, is_spin}
use Rattle.kex_core.proofs.Thresholds.{below}
use Rattle.kex_core.proofs.Sums.{chosen, ne_from, over_le, over_same, over_zero, over_one}
use Rattle.kex_core.proofs.Moves.{below_yes, below_no, below_le, below_same, next_below, start_low, before_is}

module _ (net : Plan) (valid : Valid net) (p : ℕ) (mine : p < net.parties) where
  rank_next : (j : ℕ) → Stage net p j → rank net p (net.next j) ≡ rank net p j + 1
  rank_next j s =
      let a = over_same net.stages (λ (i : ℕ). below net p (net.next j) i) (λ (i : ℕ). below net p (j + 1) i) (λ i l. next_below net valid p mine j i l s.0 s.1) in
      let b = over_one net.stages (λ (i : ℕ). below net p j i) (λ (i : ℕ). below net p (j + 1) i) j s.0 (λ i l d. below_same net p (j + 1) j i (λ _ h. omega arith) (λ _ h. omega arith)) in
      let c = below_yes net p (j + 1) j s.1 (omega arith) in let d = below_no net p j j (λ _ h. absurd (omega arith)) in omega arith

  rank_start : rank net p (net.start p) ≡ 0
  rank_start = over_same net.stages (λ (i : ℕ). below net p (net.start p) i) (λ (i : ℕ). 0) (λ i l. below_no net p (net.start p) i (λ o h. let z = start_low net valid p mine i (omega arith) o in absurd (omega arith))) ∙ over_zero net.stages

  rank_le : (j k : ℕ) → j ≤ k → rank net p j ≤ rank net p k
  rank_le j k l = over_le net.stages (λ (i : ℕ). below net p j i) (λ (i : ℕ). below net p k i) (λ i _. below_le net p j k i (λ _ h. omega arith))

  rank_low : (j : ℕ) → Stage net p j → rank net p j + 1 ≤ depth net p
  rank_low j s = let a = rank_next j s in let b = rank_le (net.next j) net.stages (valid.next_high j s.0) in omega arith

  cost_passed : (j : ℕ) → Stage net p j → 3 * rank net p j + 3 ≤ cost net p (place_past net j)
  cost_passed j s = let a = rank_next j s in chosen (λ (q : Place). 3 * rank net p j + 3 ≤ cost net p q) (eqb (net.next j) net.stages) (cond (eqb net.width 1) (Named 0) (Naming 0)) (Dec (net.next j))
      (λ e. let f : rank net p (net.next j) ≡ depth net p = ap (rank net p) (eqb-true (net.next j) net.stages e) in
      chosen (λ (q : Place). 3 * rank net p j + 3 ≤ cost net p q) (eqb net.width 1) (Named 0) (Naming 0) (λ _. omega arith) (λ _. omega arith))
      (λ _. omega arith)

  cost_back : (j : ℕ) → j ≤ net.stages → on_path net p j ≡ true → (back net p j ≡ Out) ⊎ (5 * depth net p + net.width + 2 - 2 * rank net p j ≤ cost net p (back net p j))
  cost_back j l o = chosen (λ (q : Place). (q ≡ Out) ⊎ (5 * depth net p + net.width + 2 - 2 * rank net p j ≤ cost net p q)) (eqb (net.start p) j) Out (Inc (before net p j)) (λ _. inl refl)
      (λ e. let r = before_is net valid p mine j l o (ne_from (net.start p) j e) in let low = r.2 in let a = rank_next (before net p j) (omega arith, r.1) in
      let f : rank net p (net.next (before net p j)) ≡ rank net p j = ap (rank net p) r.0 in inr (omega arith))

  -- one access more, or a read of Q, or the party is out
  pub cost_step : (d : Place) (n : ℕ) → d ≢ Out → Placed net p d → (after net p d n ≡ Out) ⊎ (cost net p d + 1 ≤ cost net p (after net p d n) + is_spin d)
  cost_step Out n o h = absurd (o refl)
  cost_step (Dec j) n o h = let a = cost_passed j h in inr (chosen (λ (q : Place). 3 * rank net p j + 1 ≤ cost net p q + 0) (eqb n 1) (Mark j) (place_past net j) (λ _. omega arith) (λ _. omega arith))
  cost_step (Mark j) n o h = inr (omega arith)
  cost_step (Look j) n o h = let a = cost_passed j h in inr (chosen (λ (q : Place). 3 * rank net p j + 2 + 1 ≤ cost net p q + 0) (eqb n 0) (Spin j) (place_past net j) (λ _. omega arith) (λ _. omega arith))
  cost_step (Spin j) n o h = let a = cost_passed j h in inr (chosen (λ (q : Place). 3 * rank net p j + 3 + 1 ≤ cost net p q + 1) (eqb n (p + 1)) (Spin j) (place_past net j) (λ _. omega arith) (λ _. omega arith))
  cost_step (Naming i) n o h = let l = h.0 in inr (chosen (λ (q : Place). 3 * depth net p + i + 1 ≤ cost net p q + 0) (eqb n 0) (Named i) (cond (eqb (i + 2) net.width) (Named (i + 1)) (Naming (i + 1))) (λ _. omega arith)
      (λ _. chosen (λ (q : Place). 3 * depth net p + i + 1 ≤ cost net p q + 0) (eqb (i + 2) net.width) (Named (i + 1)) (Naming (i + 1)) (λ e. let f = eqb-true (i + 2) net.width e in omega arith) (λ _. omega arith)))
  cost_step (Named s) n o h = inr (omega arith)
  cost_step (Holding s) n o h = let l = h.0 in chosen (λ (q : Place). (q ≡ Out) ⊎ (3 * depth net p + min (s + 1) (net.width - 1) + 1 + 1 ≤ cost net p q + 0)) (eqb (s + 1) net.width) (back net p net.stages) (Clearing s)
      (λ e. ⊎_elim inl (λ (b : 5 * depth net p + net.width + 2 - 2 * depth net p ≤ cost net p (back net p net.stages)). inr (omega arith)) (cost_back net.stages (omega arith) h.1))
      (λ e. let f = ne_from (s + 1) net.width e in inr (omega arith))
  cost_step (Clearing s) n o h = let l = h.0 in ⊎_elim inl (λ (b : 5 * depth net p + net.width + 2 - 2 * depth net p ≤ cost net p (back net p net.stages)). inr (omega arith)) (cost_back net.stages (omega arith) h.1)
  cost_step (Inc j) n o h = let a = rank_low j h in inr (omega arith)
  cost_step (Unmark j) n o h = let a = rank_low j h in ⊎_elim inl (λ (b : 5 * depth net p + net.width + 2 - 2 * rank net p j ≤ cost net p (back net p j)). inr (omega arith)) (cost_back j (let l = h.0 in omega arith) h.1)

  pub cost_due : (q : Place) → cost net p (due net p q) ≡ cost net p q
  cost_due Out = chosen (λ (r : Place). cost net p r ≡ 0) (eqb (net.start p) net.stages) (Naming 0) (Dec (net.start p))
      (λ e. let a = rank_start in let f : rank net p (net.start p) ≡ depth net p = ap (rank net p) (eqb-true (net.start p) net.stages e) in omega arith) (λ _. let a = rank_start in omega arith)
  cost_due (Dec j) = refl
  cost_due (Mark j) = refl
  cost_due (Look j) = refl
  cost_due (Spin j) = refl
  cost_due (Naming j) = refl
  cost_due (Named j) = refl
  cost_due (Holding j) = refl
  cost_due (Clearing j) = refl
  cost_due (Inc j) = refl
  cost_due (Unmark j) = refl

  pub cost_bound : (d : Place) → Placed net p d → cost net p d ≤ bound net p d
  cost_bound Out h = omega arith
  cost_bound (Dec j) h = let a = rank_low j h in omega arith
  cost_bound (Mark j) h = let a = rank_low j h in omega arith
  cost_bound (Look j) h = let a = rank_low j h in omega arith
  cost_bound (Spin j) h = let a = rank_low j h in omega arith
  cost_bound (Naming i) h = let l = h.0 in omega arith
  cost_bound (Named s) h = let l = h.0 in omega arith
  cost_bound (Holding s) h = let l = h.0 in omega arith
  cost_bound (Clearing s) h = let l = h.0 in omega arith
  cost_bound (Inc j) h = let a = rank_low j h in omega arith
  cost_bound (Unmark j) h = let a = rank_low j h in omega arith
