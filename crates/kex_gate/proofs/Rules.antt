-- Each step keeps the rule, and what the rule says of any two sessions.
use Rattle.std.proofs.Common.{◌≡◌, ℕ, ◌<◌, ◌≤◌, List, [], get_or, set, sym, refl, ap, ◌∙◌, subst, ⊎_elim, arith}
use mathlib.Core.Logic.{dite}
use mathlib.Core.Option.{none, some}
use native.Mathlib.Decide.{ℕ_discrete}
use lib.ListN.{get_elem?}
use Rattle.kex_words.specs.Passes.{TableNet}
use Rattle.pass_roles.specs.Roles.{total, number_of}
use Rattle.pass_roles.proofs.Members.{total_two, total_has}
use Rattle.pass_roles.specs.declared.role.Role.{Role}
use Rattle.kex_gate.specs.declared.view.Spot.{Spot}
use Rattle.kex_gate.specs.declared.view.Spot.TheVariants.{Free, Testing, Taking, Fast, Clearing, Giving, Slow}
use Rattle.kex_gate.specs.declared.view.View.{View}
use Rattle.kex_gate.specs.Rule.{GateState, IsGate, IsHome, IsAway, MayStand, Fits, Standing, is_out, is_out_in, owns_in}
use Rattle.kex_gate.specs.Steps.{Self}
use Rattle.kex_gate.specs.Laws.{stepped_at, got_home, IsSeated}
use Rattle.kex_gate.proofs.Counts.{just_here}
use Rattle.kex_gate.proofs.Words.{came_all, tested_all, cleared_all, gave_all, gave_slow_all}
use Rattle.kex_gate.proofs.Moving.{home_pass, leaves, arrived_all, sole}

module _ (s : GateState) (id : ℕ) (v : View) (x : ℕ) (r : IsGate v.seats s) (seated : IsSeated s id v) where
  abbrev me : Self
  me = (v, [])

  abbrev at : get_elem? s.views id ≡ some v
  at = seated.sits

  keeps_at : (a : Spot) → v.spot ≡ a → IsGate v.seats (stepped_at s id v x a)
  keeps_at Free e = came_all me seated.party s id r at e
  keeps_at (Testing i) e = tested_all me seated.party s id i r at e
  keeps_at (Taking i) e = let h = home_pass me seated.party s id i r at e in
      let l : got_home (get_elem? s.homes i) ≡ h.1.0 = ap got_home h.1.1 in
      subst (λ (z : List ℕ). IsGate v.seats record { words = set s.words 0 (get_or s.words 0 0); homes = set s.homes i none; views = set s.views id (record v { spot = Fast i; kept = z }) }) (sym l) (leaves me seated.party s id i r at e h.1.0 h.0 h.1.1)
  keeps_at (Fast i) e = arrived_all me seated.party s id i x r at e
  keeps_at (Clearing i) e = cleared_all me seated.party s id i r at e
  keeps_at Giving e = gave_all me seated.party s id r at e
  keeps_at Slow e = gave_slow_all me seated.party s id x r at e

  pub keeps_rule : IsGate v.seats (stepped_at s id v x v.spot)
  keeps_rule = keeps_at v.spot refl

module _ (t : TableNet) (s : GateState) (r : IsGate t s) where
  pub sole_owner : (i : ℕ) → i < t.net.width → total (owns_in i) s.views ≤ 1
  sole_owner i l = sole t s r i l

  -- a session that has a pass of the gate
  has_pass : (i k : ℕ) (v : View) → IsSeated s i v → v.spot ≡ Fast k → (k < t.net.width) × (is_out_in k v ≡ 1)
  has_pass i k v seated e = let f : Standing t r.made r.maker_seat i (number_of v.role) v = subst (λ (x : Role). Fits t r.made r.maker_seat i v x) seated.party (r.each i v seated.sits) in
      (subst (MayStand t.net.width v.met) e f.stands, ap (is_out k) e ∙ just_here k)

  -- one that goes the slow way
  pub slow_met : (i : ℕ) (v : View) → IsSeated s i v → v.spot ≡ Slow → t.net.width ≤ v.met
  slow_met i v seated e = let f : Standing t r.made r.maker_seat i (number_of v.role) v = subst (λ (x : Role). Fits t r.made r.maker_seat i v x) seated.party (r.each i v seated.sits) in
      subst (MayStand t.net.width v.met) e f.stands

  pub pass_away : (i k : ℕ) (v : View) → IsSeated s i v → v.spot ≡ Fast k → IsAway t s.homes s.views k
  pass_away i k v seated e = let h = has_pass i k v seated e in let one = h.1 in let some_one = total_has (is_out_in k) s.views i v seated.sits in
      ⊎_elim (λ (h : IsHome t s.homes s.views k). absurd (let z = h.0 in omega arith)) (λ (a : IsAway t s.homes s.views k). a) (r.slots k h.0)

  pub pass_apart : (i j k : ℕ) (v w : View) → IsSeated s i v → IsSeated s j w → v.spot ≡ Fast k → w.spot ≡ Fast k → i ≡ j
  pass_apart i j k v w a b e f = dite (ℕ_discrete i j) (λ z. z) (λ o. absurd (let t = total_two (is_out_in k) s.views i j v w o a.sits b.sits in let g = (has_pass i k v a e).1 in let h = (has_pass j k w b f).1 in let z = (pass_away i k v a e).0 in omega arith))
