-- What the running words use: one access at a place d that is due.
use Rattle.std.proofs.Common.{◌≡◌, ◌≢◌, ◌⊎◌, ℕ, ◌+◌, ◌<◌, ◌≤◌, ap, ◌∙◌, subst, ⊎_elim, inl, inr, arith}
use Rattle.kex_core.specs.declared.place.Place.{Place}
use Rattle.kex_core.specs.declared.place.Place.TheVariants.{Out, Dec, Named, Holding, Inc}
use Rattle.kex_core.specs.Nets.{Plan, Valid}
use Rattle.kex_core.specs.Worlds.{Machine, due, after, machine_after_access, move}
use Rattle.kex_core.specs.Laws.{Stage, Placed, Kept}
use Rattle.kex_core.specs.Costs.{cost, is_spin}
use Rattle.kex_core.proofs.Sums.{over_has}
use Rattle.kex_core.proofs.Moves.{below_yes, due_below}
use Rattle.kex_core.proofs.Steps.{split, usual_counted, placed_due}
use Rattle.kex_core.proofs.Thresholds.{counted_to, below, KeptTo}
use Rattle.kex_core.proofs.Keeps.{dec_room, named_home, holding_out}
use Rattle.kex_core.proofs.Readings.{kept_to}
use Rattle.kex_core.proofs.Runs.{row_is, kept_move}
use Rattle.kex_core.proofs.Costs.{cost_step, cost_due}

module _ (net : Plan) (valid : Valid net) (w : Machine) (kept : Kept net w) (p : ℕ) (mine : p < net.parties) (d : Place) (is : due net p (w.place p) ≡ d) where
  to : KeptTo net w
  to = kept_to net w kept

  pub due_placed : Placed net p d
  due_placed = subst (Placed net p) is (placed_due net valid p mine (w.place p) (kept.placed p mine))

  pub move_is : move net w p ≡ machine_after_access net w p d
  move_is = row_is net w p (due net p (w.place p)) ∙ ap (machine_after_access net w p) is

  pub kept_accessed : Kept net (machine_after_access net w p d)
  kept_accessed = subst (Kept net) move_is (kept_move net valid w kept p mine)

  -- Dec doesn't wrap
  pub dec_above : (j : ℕ) → d ≡ Dec j → 0 < w.x j
  dec_above j e = dec_room net valid w to p mine j (is ∙ e)

  -- what Inc raises
  pub inc_below : (j : ℕ) → d ≡ Inc j → w.x j ≤ net.cap j
  inc_below j e = let s : Stage net p j = subst (Placed net p) e due_placed in let c = to.counters j s.0 in
      let a = over_has net.parties (λ (q : ℕ). below net q (counted_to net.stages (w.place q)) j) p mine in
      let b = due_below net valid p mine (counted_to net.stages) (usual_counted net valid p mine) (split net p) (w.place p) j s.0 in
      let f : below net p (counted_to net.stages (due net p (w.place p))) j ≡ 1 = ap (λ (q : Place). below net p (counted_to net.stages q) j) (is ∙ e) ∙ below_yes net p (j + 1) j s.1 (omega arith) in omega arith

  pub card_home : (s : ℕ) → d ≡ Named s → w.card s ≡ 0
  card_home s e = let h = subst (Placed net p) e due_placed in named_home net valid w to p mine s (let l = h.0 in l) (is ∙ e)

  pub card_away : (s : ℕ) → d ≡ Holding s → w.card s ≡ 1
  card_away s e = let h = subst (Placed net p) e due_placed in holding_out net valid w to p mine s (let l = h.0 in l) (is ∙ e)

  pub firsts_step : (firsts n : ℕ) → d ≢ Out → firsts ≤ cost net p (w.place p) → (after net p d n ≡ Out) ⊎ (firsts + 1 ≤ cost net p (after net p d n) + is_spin d)
  firsts_step firsts n o h = let a = cost_due net valid p mine (w.place p) in let c : cost net p (due net p (w.place p)) ≡ cost net p d = ap (cost net p) is in
      ⊎_elim inl (λ (b : cost net p d + 1 ≤ cost net p (after net p d n) + is_spin d). inr (omega arith)) (cost_step net valid p mine d n o due_placed)

pub x_top : (net : Plan) (w : Machine) → Kept net w → (j : ℕ) → j < net.stages → w.x j ≤ net.cap j + 1
x_top net w kept j l = let c = kept.counters j l in omega arith
