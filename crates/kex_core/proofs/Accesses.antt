-- The accesses of a party over a whole schedule are no more than its place allows.
use Rattle.std.proofs.Common.{◌≡◌, ◌≢◌, ℕ, ◌+◌, ◌-◌, ◌<◌, ◌≤◌, List, [], ◌∷◌, eqb, sym, refl, ap, ◌∙◌, ⊎_elim, arith}
use Rattle.std.proofs.lemmas.Bool.{eq-eqb}
use Rattle.kex_core.specs.declared.place.Place.{Place}
use Rattle.kex_core.specs.declared.place.Place.TheVariants.{Out, Dec, Mark, Look, Spin, Naming, Named, Holding, Clearing, Inc, Unmark}
use Rattle.kex_core.specs.Nets.{Plan, Valid}
use Rattle.kex_core.specs.Worlds.{Machine, due, value_found, after, move, run, opening, Parties}
use Rattle.kex_core.specs.Laws.{Kept}
use Rattle.kex_core.specs.Costs.{cost, bound, is_spin, kept_at, firsts_after, firsts}
use Rattle.kex_core.proofs.Sums.{same_or, chosen, ne_test, yes_is, no_is, put_here, put_else}
use Rattle.kex_core.proofs.Runs.{row_is, kept_opening, kept_move}
use Rattle.kex_core.proofs.Exports.{firsts_step}
use Rattle.kex_core.proofs.Costs.{cost_bound}

kept_at_le : (d : Place) (n : ℕ) → kept_at d n ≤ n
kept_at_le Out n = omega arith
kept_at_le (Dec j) n = omega arith
kept_at_le (Mark j) n = omega arith
kept_at_le (Look j) n = omega arith
kept_at_le (Spin j) n = omega arith
kept_at_le (Naming i) n = omega arith
kept_at_le (Named s) n = omega arith
kept_at_le (Holding s) n = omega arith
kept_at_le (Clearing s) n = omega arith
kept_at_le (Inc j) n = omega arith
kept_at_le (Unmark j) n = omega arith

never_out : (net : Plan) (p : ℕ) (d : Place) → due net p d ≢ Out
never_out net p Out z = chosen (λ (q : Place). q ≢ Out) (eqb (net.start p) net.stages) (Naming 0) (Dec (net.start p)) (λ _ y. cc) (λ _ y. cc) z
never_out net p (Dec j) z = cc
never_out net p (Mark j) z = cc
never_out net p (Look j) z = cc
never_out net p (Spin j) z = cc
never_out net p (Naming i) z = cc
never_out net p (Named s) z = cc
never_out net p (Holding s) z = cc
never_out net p (Clearing s) z = cc
never_out net p (Inc j) z = cc
never_out net p (Unmark j) z = cc

module _ (net : Plan) (valid : Valid net) (p : ℕ) (mine : p < net.parties) where
  place_here : (w : Machine) → (move net w p).place p ≡ after net p (due net p (w.place p)) (value_found w p (due net p (w.place p)))
  place_here w = ap (λ (v : Machine). v.place p) (row_is net w p (due net p (w.place p))) ∙ put_here w.place p (after net p (due net p (w.place p)) (value_found w p (due net p (w.place p))))

  place_else : (w : Machine) (q : ℕ) → p ≢ q → (move net w q).place p ≡ w.place p
  place_else w q d = ap (λ (v : Machine). v.place p) (row_is net w q (due net q (w.place q))) ∙ put_else w.place q (after net q (due net q (w.place q)) (value_found w q (due net q (w.place q)))) p d

  mine_low : (w : Machine) → Kept net w → (n : ℕ) → n ≤ cost net p (w.place p)
      → kept_at ((move net w p).place p) (n + 1 - is_spin (due net p (w.place p))) ≤ cost net p ((move net w p).place p)
  mine_low w kept n h = let here = place_here w in ⊎_elim
      (λ (o : after net p (due net p (w.place p)) (value_found w p (due net p (w.place p))) ≡ Out).
      let z : kept_at ((move net w p).place p) (n + 1 - is_spin (due net p (w.place p))) ≡ 0 = ap (λ (d : Place). kept_at d (n + 1 - is_spin (due net p (w.place p)))) (here ∙ o) in omega arith)
      (λ (b : n + 1 ≤ cost net p (after net p (due net p (w.place p)) (value_found w p (due net p (w.place p)))) + is_spin (due net p (w.place p))).
      let c : cost net p ((move net w p).place p) ≡ cost net p (after net p (due net p (w.place p)) (value_found w p (due net p (w.place p)))) = ap (cost net p) here in
      let k = kept_at_le ((move net w p).place p) (n + 1 - is_spin (due net p (w.place p))) in omega arith)
      (firsts_step net valid w kept p mine (due net p (w.place p)) refl n (value_found w p (due net p (w.place p))) (never_out net p (w.place p)) h)

  step_low : (w : Machine) → Kept net w → (q n : ℕ) → n ≤ cost net p (w.place p) → firsts_after net w p q n ≤ cost net p ((move net w q).place p)
  step_low w kept q n h = ⊎_elim
      (λ (e : q ≡ p). let a = yes_is (eqb q p) (kept_at ((move net w p).place p) (n + 1 - is_spin (due net p (w.place p)))) n (eq-eqb q p e) in
      let b = mine_low w kept n h in
      let c : cost net p ((move net w q).place p) ≡ cost net p ((move net w p).place p) = ap (λ (r : ℕ). cost net p ((move net w r).place p)) e in omega arith)
      (λ (d : q ≢ p). let a = no_is (eqb q p) (kept_at ((move net w p).place p) (n + 1 - is_spin (due net p (w.place p)))) n (ne_test q p d) in
      let c : cost net p ((move net w q).place p) ≡ cost net p (w.place p) = ap (cost net p) (place_else w q (λ e. d (sym e))) in omega arith)
      (same_or q p)

  firsts_run : (ps : List ℕ) (w : Machine) (n : ℕ) → Parties net ps → Kept net w → n ≤ cost net p (w.place p) → firsts net p ps w n ≤ bound net p ((run net ps w).place p)
  firsts_run [] w n h kept l = let a = cost_bound net valid p mine (w.place p) (kept.placed p mine) in omega arith
  firsts_run (q ∷ ps) w n h kept l = firsts_run ps (move net w q) (firsts_after net w p q n) h.1 (kept_move net valid w kept q h.0) (step_low w kept q n l)

  pub firsts_bound : (ps : List ℕ) → Parties net ps → firsts net p ps (opening net) 0 ≤ bound net p ((run net ps (opening net)).place p)
  firsts_bound ps h = firsts_run ps (opening net) 0 h (kept_opening net) (omega arith)
