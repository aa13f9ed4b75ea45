-- How many accesses lead out, and how many tests to a number: each access takes one away.
use Rattle.std.proofs.Common.{◌≡◌, ℕ, ◌+◌, ◌*◌, ◌<◌, ◌≤◌, true, cond, eqb, ap, ◌∙◌, arith}
use Rattle.std.proofs.lemmas.Bool.{eqb-true}
use Rattle.kex_core.specs.declared.place.Place.{Place}
use Rattle.kex_core.specs.declared.place.Place.TheVariants.{Out, Dec, Mark, Look, Spin, Naming, Named, Holding, Clearing, Inc, Unmark}
use Rattle.kex_core.specs.Nets.{Plan, Valid, on_path, before}
use Rattle.kex_core.specs.Worlds.{back, after}
use Rattle.kex_core.specs.Laws.{Stage, Placed}
use Rattle.kex_core.specs.Costs.{rank, depth}
use Rattle.kex_core.proofs.Thresholds.{below}
use Rattle.kex_core.proofs.Sums.{chosen, ne_from, over_same, over_zero, over_one}
use Rattle.kex_core.proofs.Moves.{below_yes, below_no, below_same, next_below, start_low, before_is}
use Rattle.seat_names.specs.Ways.{back_at}

module _ (net : Plan) (valid : Valid net) (p : ℕ) (mine : p < net.parties) where
  -- the next stage on the path has one more behind it
  rank_next : (j : ℕ) → Stage net p j → rank net p (net.next j) ≡ rank net p j + 1
  rank_next j s =
      let a = over_same net.stages (λ (i : ℕ). below net p (net.next j) i) (λ (i : ℕ). below net p (j + 1) i) (λ i l. next_below net valid p mine j i l s.0 s.1) in
      let b = over_one net.stages (λ (i : ℕ). below net p j i) (λ (i : ℕ). below net p (j + 1) i) j s.0 (λ i l d. below_same net p (j + 1) j i (λ _ h. omega arith) (λ _ h. omega arith)) in
      let c = below_yes net p (j + 1) j s.1 (omega arith) in let d = below_no net p j j (λ _ h. absurd (omega arith)) in omega arith

  -- and the start has none
  rank_start : rank net p (net.start p) ≡ 0
  rank_start = over_same net.stages (λ (i : ℕ). below net p (net.start p) i) (λ (i : ℕ). 0) (λ i l. below_no net p (net.start p) i (λ o h. let z = start_low net valid p mine i (omega arith) o in absurd (omega arith))) ∙ over_zero net.stages

  -- going back from j there are two accesses for each stage before it
  back_back : (j : ℕ) → j ≤ net.stages → on_path net p j ≡ true → back_at net p (back net p j) ≡ 2 * rank net p j
  back_back j l o = chosen (λ (q : Place). back_at net p q ≡ 2 * rank net p j) (eqb (net.start p) j) Out (Inc (before net p j))
      (λ e. let f : rank net p (net.start p) ≡ rank net p j = ap (rank net p) (eqb-true (net.start p) j e) in let a = rank_start in omega arith)
      (λ e. let r = before_is net valid p mine j l o (ne_from (net.start p) j e) in let low = r.2 in let a = rank_next (before net p j) (omega arith, r.1) in
      let f : rank net p (net.next (before net p j)) ≡ rank net p j = ap (rank net p) r.0 in omega arith)

  -- each access of one who holds or leaves takes one away
  pub back_step : (d : Place) (n : ℕ) → Placed net p d → 0 < back_at net p d → back_at net p (after net p d n) + 1 ≡ back_at net p d
  back_step (Holding s) n h o = let b = back_back net.stages (omega arith) h.1 in chosen (λ (q : Place). back_at net p q + 1 ≡ cond (eqb (s + 1) net.width) 1 2 + 2 * depth net p) (eqb (s + 1) net.width) (back net p net.stages) (Clearing s)
      (λ e. rw e (omega arith)) (λ e. rw e (omega arith))
  back_step (Clearing s) n h o = let b = back_back net.stages (omega arith) h.1 in omega arith
  back_step (Inc j) n h o = omega arith
  back_step (Unmark j) n h o = let b = back_back j (let l = h.0 in omega arith) h.1 in omega arith
  back_step Out n h o = absurd (omega arith)
  back_step (Dec j) n h o = absurd (omega arith)
  back_step (Mark j) n h o = absurd (omega arith)
  back_step (Look j) n h o = absurd (omega arith)
  back_step (Spin j) n h o = absurd (omega arith)
  back_step (Naming i) n h o = absurd (omega arith)
  back_step (Named s) n h o = absurd (omega arith)
