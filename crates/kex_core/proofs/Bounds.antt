-- What holds of a world in which the counters count and a counter at its end is watched: at most c pass, and at most c + 1 are within.
use Rattle.std.proofs.Common.{◌≡◌, ◌≢◌, ◌⊎◌, ℕ, ◌+◌, ◌<◌, ◌≤◌, true, cond, eqb, sym, ap, subst, ⊎_elim, arith}
use Rattle.std.proofs.lemmas.Bool.Decides.{nat_tests}
use Rattle.std.proofs.lemmas.Bool.{eq-eqb}
use Rattle.kex_core.specs.declared.place.Place.{Place}
use Rattle.kex_core.specs.declared.place.Place.TheVariants.{Out, Dec, Mark, Look, Spin, Naming, Named, Holding, Clearing, Inc, Unmark}
use Rattle.kex_core.specs.Nets.{Plan, Valid, over, starts, feeds, on_path, before}
use Rattle.kex_core.specs.Worlds.{Machine, due}
use Rattle.kex_core.specs.Laws.{Stage, Placed, Waits}
use Rattle.kex_core.proofs.Thresholds.{starts_at, feeds_at, counted_to, within_to, between_to, passed_to, below, reaches, counted, within, through, inside}
use Rattle.kex_core.proofs.Sums.{same_or, yes_is, over_le, over_add, over_lt, over_has, over_swap, over_cond}
use Rattle.kex_core.proofs.Moves.{below_yes, below_no, below_le, below_is, below_one, due_below, before_is}
use Rattle.kex_core.proofs.Steps.{split, usual_counted, usual_passed, placed_due}

passed_counted : (s : ℕ) (d : Place) → passed_to s d ≤ counted_to s d
passed_counted s Out = omega arith
passed_counted s (Dec j) = omega arith
passed_counted s (Mark j) = omega arith
passed_counted s (Look j) = omega arith
passed_counted s (Spin j) = omega arith
passed_counted s (Naming j) = omega arith
passed_counted s (Named j) = omega arith
passed_counted s (Holding j) = omega arith
passed_counted s (Clearing j) = omega arith
passed_counted s (Inc j) = omega arith
passed_counted s (Unmark j) = omega arith

within_passed : (s : ℕ) (d : Place) → within_to s d ≤ passed_to s d + 1
within_passed s Out = omega arith
within_passed s (Dec j) = omega arith
within_passed s (Mark j) = omega arith
within_passed s (Look j) = omega arith
within_passed s (Spin j) = omega arith
within_passed s (Naming j) = omega arith
within_passed s (Named j) = omega arith
within_passed s (Holding j) = omega arith
within_passed s (Clearing j) = omega arith
within_passed s (Inc j) = omega arith
within_passed s (Unmark j) = omega arith

counted_within : (s : ℕ) (d : Place) → counted_to s d ≤ within_to s d
counted_within s Out = omega arith
counted_within s (Dec j) = omega arith
counted_within s (Mark j) = omega arith
counted_within s (Look j) = omega arith
counted_within s (Spin j) = omega arith
counted_within s (Naming j) = omega arith
counted_within s (Named j) = omega arith
counted_within s (Holding j) = omega arith
counted_within s (Clearing j) = omega arith
counted_within s (Inc j) = omega arith
counted_within s (Unmark j) = omega arith

pub counted_between : (s : ℕ) (d : Place) → counted_to s d ≤ between_to s d
counted_between s Out = omega arith
counted_between s (Dec j) = omega arith
counted_between s (Mark j) = omega arith
counted_between s (Look j) = omega arith
counted_between s (Spin j) = omega arith
counted_between s (Naming j) = omega arith
counted_between s (Named j) = omega arith
counted_between s (Holding j) = omega arith
counted_between s (Clearing j) = omega arith
counted_between s (Inc j) = omega arith
counted_between s (Unmark j) = omega arith

-- who is inside is within Exit
reach_one : (s : ℕ) → reaches 0 (Named s) ≤ 1
reach_one s = grind (arith, nat_tests)

inside_one : (net : Plan) (p s : ℕ) → on_path net p net.stages ≡ true → reaches 0 (Named s) ≤ below net p (net.stages + 1) net.stages
inside_one net p s o = let a = below_yes net p (net.stages + 1) net.stages o (omega arith) in let b : reaches 0 (Named s) ≤ 1 = reach_one s in omega arith

reach_within : (net : Plan) (p : ℕ) (d : Place) → Placed net p d → reaches 0 d ≤ below net p (within_to net.stages d) net.stages
reach_within net p Out h = omega arith
reach_within net p (Dec j) h = omega arith
reach_within net p (Mark j) h = omega arith
reach_within net p (Look j) h = omega arith
reach_within net p (Spin j) h = omega arith
reach_within net p (Naming s) h = inside_one net p s h.1
reach_within net p (Named s) h = inside_one net p s h.1
reach_within net p (Holding s) h = inside_one net p s h.1
reach_within net p (Clearing s) h = inside_one net p s h.1
reach_within net p (Inc j) h = omega arith
reach_within net p (Unmark j) h = omega arith

pub record Base (net : Plan) (w : Machine) : Type 0 where
  pub placed : (p : ℕ) → p < net.parties → Placed net p (w.place p)
  pub counters : (j : ℕ) → j < net.stages → w.x j + counted net w j ≡ net.cap j + 1
  pub watched : (j : ℕ) → j < net.stages → w.x j ≡ 0 → (q : ℕ) × (q < net.parties) × Waits w q j

module _ (net : Plan) (valid : Valid net) (w : Machine) (base : Base net w) where
  watcher : (q j : ℕ) → q < net.parties → Waits w q j → below net q (passed_to net.stages (w.place q)) j < below net q (counted_to net.stages (w.place q)) j
  watcher q j l h = ⊎_elim (λ (e : w.place q ≡ Mark j). at (w.place q) (Mark j) e (base.placed q l) (λ s. strict s))
      (λ (t : ((w.place q ≡ Look j) ⊎ (w.place q ≡ Spin j)) × (w.q j ≡ q + 1)). ⊎_elim (λ (e : w.place q ≡ Look j). at (w.place q) (Look j) e (base.placed q l) (λ s. strict s)) (λ (e : w.place q ≡ Spin j). at (w.place q) (Spin j) e (base.placed q l) (λ s. strict s)) t.0) h
    where
      strict : Stage net q j → below net q j j < below net q (j + 1) j
      strict s = let a = below_no net q j j (λ _ z. absurd (omega arith)) in let b = below_yes net q (j + 1) j s.1 (omega arith) in omega arith

      at : (a b : Place) → a ≡ b → Placed net q a → (Placed net q b → below net q (passed_to net.stages b) j < below net q (counted_to net.stages b) j) → below net q (passed_to net.stages a) j < below net q (counted_to net.stages a) j
      at a b e h f = subst (λ (r : Place). below net q (passed_to net.stages r) j < below net q (counted_to net.stages r) j) (sym e) (f (subst (Placed net q) e h))

  pub through_le : (j : ℕ) → j < net.stages → through net w j ≤ net.cap j
  through_le j l = let c = base.counters j l in ⊎_elim
      (λ (z : w.x j ≡ 0). let q = base.watched j l z in
      let s : through net w j + 1 ≤ counted net w j = over_lt net.parties (λ (p : ℕ). below net p (passed_to net.stages (w.place p)) j) (λ (p : ℕ). below net p (counted_to net.stages (w.place p)) j) (q.0) (q.1) point (watcher (q.0) j (q.1) (q.2)) in omega arith)
      (λ (z : w.x j ≢ 0). let s : through net w j ≤ counted net w j = over_le net.parties (λ (p : ℕ). below net p (passed_to net.stages (w.place p)) j) (λ (p : ℕ). below net p (counted_to net.stages (w.place p)) j) point in omega arith) (same_or (w.x j) 0)
    where
      point : (p : ℕ) → p < net.parties → below net p (passed_to net.stages (w.place p)) j ≤ below net p (counted_to net.stages (w.place p)) j
      point p m = below_le net p (passed_to net.stages (w.place p)) (counted_to net.stages (w.place p)) j (λ _ z. let a = passed_counted net.stages (w.place p) in omega arith)

  abbrev fed : ℕ → ℕ → ℕ → ℕ
  fed j p i = cond (eqb (net.next i) j) (below net p (passed_to net.stages (w.place p)) i) 0

  -- who is within j starts there, or has passed the stage before
  came : (p j : ℕ) → p < net.parties → j ≤ net.stages → below net p (within_to net.stages (due net p (w.place p))) j ≤ starts_at net p j + over net.stages (fed j p)
  came p j m l = ⊎_elim (λ (z : below net p (within_to net.stages (due net p (w.place p))) j ≡ 0). omega arith)
      (λ (z : below net p (within_to net.stages (due net p (w.place p))) j ≢ 0).
      let most = below_one net p (within_to net.stages (due net p (w.place p))) j in
      let h = below_is net p (within_to net.stages (due net p (w.place p))) j (omega arith) in ⊎_elim
      (λ (e : net.start p ≡ j). let a : starts_at net p j ≡ 1 = yes_is (eqb (net.start p) j) 1 0 (eq-eqb (net.start p) j e) in omega arith)
      (λ (d : net.start p ≢ j). let r = before_is net valid p m j l h.0 d in let b = r.2 in let low = h.1 in
      let c = within_passed net.stages (due net p (w.place p)) in
      let y = below_yes net p (passed_to net.stages (due net p (w.place p))) (before net p j) r.1 (omega arith) in
      let u = due_below net valid p m (passed_to net.stages) (usual_passed net valid p m) (split net p) (w.place p) (before net p j) (omega arith) in
      let f : fed j p (before net p j) ≡ below net p (passed_to net.stages (w.place p)) (before net p j) = yes_is (eqb (net.next (before net p j)) j) (below net p (passed_to net.stages (w.place p)) (before net p j)) 0 (eq-eqb (net.next (before net p j)) j r.0) in
      let v = over_has net.stages (fed j p) (before net p j) (omega arith) in omega arith)
      (same_or (net.start p) j))
      (same_or (below net p (within_to net.stages (due net p (w.place p))) j) 0)

  pub due_within : (j : ℕ) → j ≤ net.stages → over net.parties (λ p. below net p (within_to net.stages (due net p (w.place p))) j) ≤ starts net j + feeds net j
  due_within j l =
      let a = over_le net.parties (λ (p : ℕ). below net p (within_to net.stages (due net p (w.place p))) j) (λ (p : ℕ). starts_at net p j + over net.stages (fed j p)) (λ p m. came p j m l) in
      let b = over_add net.parties (λ (p : ℕ). starts_at net p j) (λ (p : ℕ). over net.stages (fed j p)) in
      let c = over_swap net.parties net.stages (λ (p i : ℕ). fed j p i) in
      let d : over net.stages (λ i. over net.parties (λ p. fed j p i)) ≤ feeds net j = over_le net.stages (λ (i : ℕ). over net.parties (λ p. fed j p i)) (λ (i : ℕ). feeds_at net i j)
      (λ i m. over_cond (eqb (net.next i) j) net.parties (λ (p : ℕ). below net p (passed_to net.stages (w.place p)) i) (net.cap i) (through_le i m)) in
      omega arith

  pub room_within : (j : ℕ) → j < net.stages → over net.parties (λ p. below net p (within_to net.stages (due net p (w.place p))) j) ≤ net.cap j + 1
  room_within j l = let a = due_within j (omega arith) in let b = valid.room j l in omega arith

  due_more : (p j : ℕ) → below net p (within_to net.stages (w.place p)) j ≤ below net p (within_to net.stages (due net p (w.place p))) j
  due_more p j = go (w.place p)
    where
      go : (q : Place) → below net p (within_to net.stages q) j ≤ below net p (within_to net.stages (due net p q)) j
      go q = ⊎_elim (λ (e : q ≡ Out). below_le net p (within_to net.stages q) (within_to net.stages (due net p q)) j (λ _ z. let f : within_to net.stages q ≡ 0 = ap (within_to net.stages) e in absurd (omega arith)))
          (λ (e : due net p q ≡ q). let f : within_to net.stages (due net p q) ≡ within_to net.stages q = ap (within_to net.stages) e in below_le net p (within_to net.stages q) (within_to net.stages (due net p q)) j (λ _ z. omega arith)) (split net p q)

  pub within_le : (j : ℕ) → j < net.stages → within net w j ≤ net.cap j + 1
  within_le j l = let a = room_within j l in
      let b : within net w j ≤ over net.parties (λ p. below net p (within_to net.stages (due net p (w.place p))) j) = over_le net.parties (λ (p : ℕ). below net p (within_to net.stages (w.place p)) j) (λ (p : ℕ). below net p (within_to net.stages (due net p (w.place p))) j) (λ p m. due_more p j) in omega arith

  pub due_inside : over net.parties (λ p. reaches 0 (due net p (w.place p))) ≤ net.width
  due_inside = let a = due_within net.stages (omega arith) in let r = valid.room_exit in
      let b = over_le net.parties (λ (p : ℕ). reaches 0 (due net p (w.place p))) (λ (p : ℕ). below net p (within_to net.stages (due net p (w.place p))) net.stages)
      (λ p m. reach_within net p (due net p (w.place p)) (placed_due net valid p m (w.place p) (base.placed p m))) in omega arith

  pub inside_le : inside net w ≤ net.width
  inside_le = let a = due_inside in
      let b : inside net w ≤ over net.parties (λ p. reaches 0 (due net p (w.place p))) = over_le net.parties (λ (p : ℕ). reaches 0 (w.place p)) (λ (p : ℕ). reaches 0 (due net p (w.place p))) (λ p m. more p (w.place p)) in omega arith
    where
      more : (p : ℕ) (q : Place) → reaches 0 q ≤ reaches 0 (due net p q)
      more p q = ⊎_elim (λ (e : q ≡ Out). let f : reaches 0 q ≡ 0 = ap (reaches 0) e in omega arith) (λ (e : due net p q ≡ q). let f : reaches 0 (due net p q) ≡ reaches 0 q = ap (reaches 0) e in omega arith) (split net p q)

  -- a party within j that isn't counted there leaves room in the counter
  pub uncounted : (p j : ℕ) → p < net.parties → j < net.stages → below net p (counted_to net.stages (due net p (w.place p))) j ≡ 0 → below net p (within_to net.stages (due net p (w.place p))) j ≡ 1 → 0 < w.x j
  uncounted p j m l c u = let r = room_within j l in let t = base.counters j l in
      let v = due_below net valid p m (counted_to net.stages) (usual_counted net valid p m) (split net p) (w.place p) j l in
      let s : counted net w j + 1 ≤ over net.parties (λ p. below net p (within_to net.stages (due net p (w.place p))) j) =
      over_lt net.parties (λ (q : ℕ). below net q (counted_to net.stages (w.place q)) j) (λ (q : ℕ). below net q (within_to net.stages (due net q (w.place q))) j) p m point (omega arith) in omega arith
    where
      point : (q : ℕ) → q < net.parties → below net q (counted_to net.stages (w.place q)) j ≤ below net q (within_to net.stages (due net q (w.place q))) j
      point q n = let a = due_below net valid q n (counted_to net.stages) (usual_counted net valid q n) (split net q) (w.place q) j l in
          let b = below_le net q (counted_to net.stages (due net q (w.place q))) (within_to net.stages (due net q (w.place q))) j (λ _ z. let e = counted_within net.stages (due net q (w.place q)) in omega arith) in omega arith
