-- A pass leaves its slot and comes home.
use Rattle.std.proofs.Common.{◌≡◌, ◌≢◌, ℕ, ◌+◌, ◌<◌, ◌≤◌, eqb, true, List, [], ◌∷◌, ◌++◌, get_or, set, sym, refl, ap, ◌∙◌, subst, ⊎_elim, inl, inr, arith, length-set, Option, Some}
use Rattle.std.proofs.lemmas.Bool.{eqb-true}
use mathlib.Core.Option.{none, some}
use mathlib.Core.Logic.{dite}
use native.Mathlib.Decide.{dec_le}
use lib.ListN.{get_elem?}
use lib.Seq.{set-get_or}
use Rattle.atomic_table.specs.Table.{step, takes, gives, Allows}
use Rattle.atomic_table.proofs.Lists.{set_here, set_else}
use Rattle.kex_core.proofs.Sums.{chosen, same_or, ne_from}
use Rattle.kex_words.specs.Passes.{TableNet, Pass}
use Rattle.pass_roles.specs.Roles.{total, number_of}
use Rattle.pass_roles.proofs.Members.{total_has, total_set, at_inside}
use Rattle.pass_roles.specs.declared.role.Role.TheVariants.{Party}
use Rattle.kex_gate.specs.declared.view.Spot.{Spot}
use Rattle.kex_gate.specs.declared.view.Spot.TheVariants.{Taking, Fast, Clearing, Giving}
use Rattle.kex_gate.specs.declared.view.Visit.{Visit}
use Rattle.kex_gate.specs.declared.view.View.{View}
use Rattle.kex_gate.specs.Passes.{sessions, resting, room_word, bit_word}
use Rattle.kex_gate.specs.Rule.{GateState, IsGate, IsHome, IsAway, MayStand, busy, within, reaches, owns, is_out, kept_at, up_to, just, busy_in, within_in, reaches_in, owns_in, is_out_in, fast_in, kept_in, home_worth, fast_worth}
use Rattle.kex_gate.specs.Steps.{Self, spot_home, last_of, went_out, went_home, index_of}
use Rattle.kex_gate.proofs.Counts as counts
use Rattle.kex_gate.proofs.Counts.{total_le, total_le2, total_append, owns_reaches, out_owns}
use Rattle.kex_gate.proofs.Keeps.{low_at, total_is, changes}

pub last_snoc : (l : List ℕ) (x : ℕ) → last_of (l ++ x ∷ []) ≡ x
last_snoc [] x = refl
last_snoc (y ∷ []) x = refl
last_snoc (y ∷ z ∷ l) x = last_snoc (z ∷ l) x

-- at most one session owns a number
pub sole : (t : TableNet) (s : GateState) (r : IsGate t s) (i : ℕ) → i < t.net.width → total (owns_in i) s.views ≤ 1
sole t s r i low = dite (dec_le (i + 2) t.net.width) (λ y. (r.bits i (omega arith)).1)
    (λ y. let a = total_le (owns_in i) (reaches_in i) s.views (λ j (x : View) e. owns_reaches i x.spot) in let b = r.behind i low in omega arith)

module _ (me : Self) (is : me.0.role ≡ Party (number_of me.0.role)) where
  abbrev v : View
  v = me.0

  abbrev m : ℕ
  m = me.0.seats.net.width

  abbrev pass : ℕ → List ℕ → Pass
  pass i l = resting me.0.seats (sessions me.0.seats.net + i) l

  -- the pass of a session that is to take it is home
  pub home_pass : (s : GateState) (id i : ℕ) (r : IsGate v.seats s) → get_elem? s.views id ≡ some v → v.spot ≡ Taking i → IsHome v.seats s.homes s.views i
  home_pass s id i r at e =
      let low : i < m = low_at s id v r at is (Taking i) e in
      let two = total_le2 (is_out_in i) (λ (x : View). counts.takes i x.spot) (owns_in i) s.views (λ (x : View). out_owns i x.spot) in
      let here : counts.takes i v.spot ≤ total (λ (x : View). counts.takes i x.spot) s.views = total_has (λ (x : View). counts.takes i x.spot) s.views id v at in
      let mine : counts.takes i v.spot ≡ just i i = ap (counts.takes i) e in
      let one = sole v.seats s r i low in
      ⊎_elim (λ (h : IsHome v.seats s.homes s.views i). h) (λ (a : IsAway v.seats s.homes s.views i). absurd (let z = a.0 in omega arith)) (r.slots i low)

  pub leaves : (s : GateState) (id i : ℕ) (r : IsGate v.seats s) (at : get_elem? s.views id ≡ some v) (e : v.spot ≡ Taking i) (l : List ℕ) → total (is_out_in i) s.views ≡ 0 → get_elem? s.homes i ≡ some (some (Some (pass i l)))
      → IsGate v.seats record { words = set s.words 0 (get_or s.words 0 0); homes = set s.homes i none; views = set s.views id (record v { spot = Fast i; kept = l }) }
  leaves s id i r at e l none_out home =
      let low : i < m = low_at s id v r at is (Taking i) e in
      let same : set s.words 0 (get_or s.words 0 0) ≡ s.words = set-get_or s.words 0 0 in
      let word : (k : ℕ) → get_or (set s.words 0 (get_or s.words 0 0)) k 0 ≡ get_or s.words k 0 = λ k. ap (λ (x : List ℕ). get_or x k 0) same in
      changes s id v r at is (Fast i) v.visits l v.met (set s.words 0 (get_or s.words 0 0)) (set s.homes i none) low (length-set s.words 0 (get_or s.words 0 0))
      (let t = total_is s id v r at is (Fast i) v.visits l v.met busy_in in let b : busy v.spot ≡ 1 = ap busy e in let g = word room_word in let q = r.room in omega arith)
      (let t = total_is s id v r at is (Fast i) v.visits l v.met within_in in let b : within v.spot ≡ 1 = ap within e in let q = r.inside in omega arith)
      (λ j k. let t = total_is s id v r at is (Fast i) v.visits l v.met (reaches_in j) in let b : reaches j v.spot ≡ up_to j i = ap (reaches j) e in let q = r.behind j k in omega arith)
      (λ j k. let t = total_is s id v r at is (Fast i) v.visits l v.met (owns_in j) in let b : owns j v.spot ≡ just j i = ap (owns j) e in let g = word (bit_word j) in let o = r.bits j k in (omega arith, omega arith))
      (λ j k. let t = total_is s id v r at is (Fast i) v.visits l v.met (is_out_in j) in let b : is_out j v.spot ≡ 0 = ap (is_out j) e in ⊎_elim
      (λ (h : j ≡ i). let z : total (is_out_in j) s.views ≡ 0 = ap (λ (x : ℕ). total (is_out_in x) s.views) h ∙ none_out in
      inr (omega arith, ap (get_elem? (set s.homes i none)) h ∙ set_here s.homes i none (at_inside s.homes i (some (Some (pass i l))) home)))
      (λ (d : j ≢ i). ⊎_elim (λ (h : IsHome v.seats s.homes s.views j). let z = h.0 in inl (omega arith, (h.1.0, set_else s.homes i j none d ∙ h.1.1)))
      (λ (h : IsAway v.seats s.homes s.views j). let z = h.0 in inr (omega arith, set_else s.homes i j none d ∙ h.1)) (r.slots j k)) (same_or j i))
      (λ f. let t = total_is s id v r at is (Fast i) v.visits l v.met (fast_in f) in let u = total_is s id v r at is (Fast i) v.visits l v.met (kept_in f) in
      let b : kept_in f v ≡ 0 = ap (λ (x : Spot). total f (kept_at x v.kept)) e in
      let h = total_set (home_worth f) s.homes i (some (Some (pass i l))) none home in let q = r.books f in omega arith)

  pub leaves_slot : (slots id i : ℕ) → v.spot ≡ Taking i → Allows (IsGate v.seats) slots id me 0 (λ n. n) (went_out (step slots 0 0 0 none) me)
  leaves_slot slots id i e s r _ at _ =
      let h = home_pass s id i r at e in let l : List ℕ = h.1.0 in
      let k_is : i ≡ index_of v.spot = sym (ap index_of e) in (
        record v { spot = Fast (index_of v.spot); kept = l },
        takes (index_of v.spot) (Some (pass (index_of v.spot) l)),
        subst (λ (k : ℕ). get_elem? s.homes k ≡ some (some (Some (pass k l)))) k_is h.1.1,
        subst (λ (k : ℕ). IsGate v.seats record { words = set s.words 0 (get_or s.words 0 0); homes = set s.homes k none; views = set s.views id (record v { spot = Fast k; kept = l }) }) k_is (leaves s id i r at e l h.0 h.1.1),
        (l, refl),
      )

  -- the pass is home again at the spot a, with the number x more
  pub arrives : (s : GateState) (id i x : ℕ) (r : IsGate v.seats s) (at : get_elem? s.views id ≡ some v) (e : v.spot ≡ Fast i) (a : Spot) → MayStand m v.met a → busy a ≡ 1 → within a ≡ 1 → ((j : ℕ) → j + 1 < m → owns j a ≡ just j i) → ((j : ℕ) → reaches j a ≤ up_to j i)
      → ((j : ℕ) → is_out j a ≡ 0) → kept_at a [] ≡ []
      → IsGate v.seats record { words = set s.words 0 (get_or s.words 0 0); homes = set s.homes i (some (Some (pass i (v.kept ++ x ∷ [])))); views = set s.views id (record v { spot = a; visits = v.visits ++ (record { seat = x; fast = true }) ∷ []; kept = [] }) }
  arrives s id i x r at e a a_low a_busy a_within a_owns a_reaches a_out a_kept =
      let low : i < m = low_at s id v r at is (Fast i) e in
      let vs : List Visit = v.visits ++ (record { seat = x; fast = true }) ∷ [] in
      let p : Pass = pass i (v.kept ++ x ∷ []) in
      let same : set s.words 0 (get_or s.words 0 0) ≡ s.words = set-get_or s.words 0 0 in
      let word : (k : ℕ) → get_or (set s.words 0 (get_or s.words 0 0)) k 0 ≡ get_or s.words k 0 = λ k. ap (λ (z : List ℕ). get_or z k 0) same in
      let here : is_out i v.spot ≤ total (is_out_in i) s.views = total_has (is_out_in i) s.views id v at in
      let mine : is_out i v.spot ≡ just i i = ap (is_out i) e in
      let away : IsAway v.seats s.homes s.views i = ⊎_elim (λ (h : IsHome v.seats s.homes s.views i). absurd (let z = h.0 in omega arith)) (λ (h : IsAway v.seats s.homes s.views i). h) (r.slots i low) in
      let one = away.0 in
      changes s id v r at is a vs [] v.met (set s.words 0 (get_or s.words 0 0)) (set s.homes i (some (Some p))) a_low (length-set s.words 0 (get_or s.words 0 0))
      (let t = total_is s id v r at is a vs [] v.met busy_in in let b : busy v.spot ≡ 1 = ap busy e in let g = word room_word in let q = r.room in omega arith)
      (let t = total_is s id v r at is a vs [] v.met within_in in let b : within v.spot ≡ 1 = ap within e in let q = r.inside in omega arith)
      (λ j k. let t = total_is s id v r at is a vs [] v.met (reaches_in j) in let b : reaches j v.spot ≡ up_to j i = ap (reaches j) e in let c = a_reaches j in let q = r.behind j k in omega arith)
      (λ j k. let t = total_is s id v r at is a vs [] v.met (owns_in j) in let b : owns j v.spot ≡ just j i = ap (owns j) e in let c = a_owns j k in let g = word (bit_word j) in let o = r.bits j k in (omega arith, omega arith))
      (λ j k. let t = total_is s id v r at is a vs [] v.met (is_out_in j) in let b : is_out j v.spot ≡ just j i = ap (is_out j) e in let c = a_out j in ⊎_elim
      (λ (h : j ≡ i). let z : total (is_out_in j) s.views ≡ 1 = ap (λ (y : ℕ). total (is_out_in y) s.views) h ∙ one in
      inl (omega arith, (v.kept ++ x ∷ [], ap (get_elem? (set s.homes i (some (Some p)))) h ∙ (set_here s.homes i (some (Some p)) (at_inside s.homes i none away.1) ∙ ap (λ (y : ℕ). some (some (Some (pass y (v.kept ++ x ∷ []))))) (sym h)))))
      (λ (d : j ≢ i). ⊎_elim (λ (h : IsHome v.seats s.homes s.views j). let z = h.0 in inl (omega arith, (h.1.0, set_else s.homes i j (some (Some p)) d ∙ h.1.1)))
      (λ (h : IsAway v.seats s.homes s.views j). let z = h.0 in inr (omega arith, set_else s.homes i j (some (Some p)) d ∙ h.1)) (r.slots j k)) (same_or j i))
      (λ f. let t = total_is s id v r at is a vs [] v.met (fast_in f) in let u = total_is s id v r at is a vs [] v.met (kept_in f) in
      let b : kept_in f v ≡ total f v.kept = ap (λ (z : Spot). total f (kept_at z v.kept)) e in
      let c : total f (kept_at a []) ≡ 0 = ap (total f) a_kept in
      let n = total_append (fast_worth f) v.visits (record { seat = x; fast = true } ∷ []) in let o = total_append f v.kept (x ∷ []) in
      let h = total_set (home_worth f) s.homes i none (some (Some p)) away.1 in let q = r.books f in omega arith)

  abbrev After : GateState → ℕ → ℕ → ℕ → ℕ → Spot → Type 0
  After s id i x y a = IsGate me.0.seats record { words = set s.words 0 (get_or s.words 0 0); homes = set s.homes i (some (Some (pass i (me.0.kept ++ x ∷ [])))); views = set s.views id (record me.0 { spot = a; visits = me.0.visits ++ (record { seat = y; fast = true }) ∷ []; kept = [] }) }

  pub arrived_all : (s : GateState) (id i x : ℕ) (r : IsGate v.seats s) → get_elem? s.views id ≡ some v → v.spot ≡ Fast i → After s id i x x (spot_home m i)
  arrived_all s id i x r at e =
      let low : i < m = low_at s id v r at is (Fast i) e in
      chosen (After s id i x x) (eqb (i + 1) m) Giving (Clearing i)
      (λ t. let last = eqb-true (i + 1) m t in arrives s id i x r at e Giving tt refl refl (λ j k. omega arith) (λ j. omega arith) (λ j. refl) refl)
      (λ f. let on = ne_from (i + 1) m f in arrives s id i x r at e (Clearing i) (omega arith) refl refl (λ j k. refl) (λ j. omega arith) (λ j. refl) refl)

  pub comes_home : (slots id i x : ℕ) → v.spot ≡ Fast i → me.1 ≡ (i, Some (pass i (v.kept ++ x ∷ []))) ∷ [] → Allows (IsGate v.seats) slots id me 0 (λ n. n) (went_home (step slots 0 0 0 none) me)
  comes_home slots id i x e in_hand = subst (λ (c : List (ℕ × Option Pass)). Allows (IsGate v.seats) slots id (v, c) 0 (λ n. n) (went_home (step slots 0 0 0 none) (v, c))) (sym in_hand)
      (λ s r _ at _. (
        record v { spot = spot_home m (index_of v.spot); visits = v.visits ++ (record { seat = last_of (v.kept ++ x ∷ []); fast = true }) ∷ []; kept = [] },
        gives,
        tt,
        subst (λ (z : ℕ × ℕ). After s id i x z.0 (spot_home m z.1)) (λ t. (sym (last_snoc v.kept x) t, sym (ap index_of e) t)) (arrived_all s id i x r at e),
        refl,
      ))
