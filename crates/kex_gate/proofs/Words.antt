-- The steps on the count of room and on the bits.
use Rattle.std.proofs.Common.{◌≡◌, ◌≢◌, ℕ, ◌+◌, ◌-◌, ◌%◌, ◌^◌, ◌<◌, ◌≤◌, eqb, false, List, [], ◌∷◌, ◌++◌, get_or, set, sym, refl, ap, ◌∙◌, subst, ⊎_elim, arith, length-set, get_or-set_other, get_or-set_same}
use Rattle.std.proofs.lemmas.Bool.{eqb-true}
use mathlib.Core.Option.{none, some}
use lib.ListN.{get_elem?}
use Rattle.atomic_table.specs.Table.{step, keeps, Allows}
use Rattle.kex_core.proofs.Sums.{chosen, same_or, ne_from}
use Rattle.pass_roles.specs.Roles.{total, number_of}
use Rattle.pass_roles.proofs.Members.{total_has}
use Rattle.pass_roles.specs.declared.role.Role.TheVariants.{Party}
use Rattle.kex_gate.specs.declared.view.Spot.{Spot}
use Rattle.kex_gate.specs.declared.view.Spot.TheVariants.{Free, Testing, Taking, Clearing, Giving, Slow}
use Rattle.kex_gate.specs.declared.view.Visit.{Visit}
use Rattle.kex_gate.specs.declared.view.View.{View}
use Rattle.kex_gate.specs.Passes.{room_word, bit_word}
use Rattle.kex_gate.specs.Rule.{GateState, IsGate, MayStand, busy, within, reaches, owns, is_out, kept_at, up_to, just, busy_in, within_in, reaches_in, owns_in, fast_worth}
use Rattle.kex_gate.specs.Steps.{Self, view_at, entered_view, spot_at, spot_tested, meets_others, tested_bit, cleared_bit, gave, gave_slow}
use Rattle.kex_gate.proofs.Counts.{total_le, total_le3, total_append, tests, reaches_within, further_on}
use Rattle.kex_gate.proofs.Keeps.{few_busy, few_within, low_at, total_is, changes_plain}

reach_first : (views : List View) → total (reaches_in 0) views ≤ total within_in views
reach_first views = total_le (reaches_in 0) within_in views (λ j v e. reaches_within v.spot)

module _ (me : Self) (is : me.0.role ≡ Party (number_of me.0.role)) where
  abbrev v : View
  v = me.0

  abbrev m : ℕ
  m = me.0.seats.net.width

  -- the table after a step that writes y into the word i
  abbrev After : GateState → ℕ → ℕ → ℕ → View → Type 0
  After s id i y w = IsGate me.0.seats record { words = set s.words i y; homes = s.homes; views = set s.views id w }

  -- a session takes its place, and comes to the spot a
  comes_at : (s : GateState) (id : ℕ) (r : IsGate v.seats s) → get_elem? s.views id ≡ some v → v.spot ≡ Free → (a : Spot) → MayStand m (total busy_in s.views) a → busy a ≡ 1 → ((i : ℕ) → i + 1 < m → owns i a ≡ 0) → ((i : ℕ) → is_out i a ≡ 0)
      → kept_at a v.kept ≡ [] → total within_in s.views + within a ≤ m → ((i : ℕ) → i < m → total (reaches_in i) s.views + reaches i a + i ≤ m)
      → After s id room_word ((get_or s.words room_word 0 + (2 ^ 64 - 1)) % 2 ^ 64) (record v { spot = a; met = total busy_in s.views })
  comes_at s id r at free a low some_busy no_own no_out no_kept inside behind =
      let n : ℕ = get_or s.words room_word 0 in let y : ℕ = (n + (2 ^ 64 - 1)) % 2 ^ 64 in
      let room = r.room in let few = few_busy v.seats s r in let small = r.small in let some_seats = r.some_seats in let wide = r.wide in
      let y_is : y ≡ n - 1 = omega arith in
      let b : busy v.spot ≡ 0 = ap busy free in let w : within v.spot ≡ 0 = ap within free in
      changes_plain s id v r at is a v.visits v.kept (total busy_in s.views) (set s.words room_word y) low (length-set s.words room_word y)
      (λ i. no_out i ∙ sym (ap (is_out i) free)) (no_kept ∙ sym (ap (λ (x : Spot). kept_at x v.kept) free)) (λ f. refl)
      (let t = total_is s id v r at is a v.visits v.kept (total busy_in s.views) busy_in in let g = get_or-set_same s.words room_word y 0 (omega arith) in omega arith)
      (let t = total_is s id v r at is a v.visits v.kept (total busy_in s.views) within_in in omega arith)
      (λ i l. let t = total_is s id v r at is a v.visits v.kept (total busy_in s.views) (reaches_in i) in let z : reaches i v.spot ≡ 0 = ap (reaches i) free in let q = behind i l in omega arith)
      (λ i l. let t = total_is s id v r at is a v.visits v.kept (total busy_in s.views) (owns_in i) in let z : owns i v.spot ≡ 0 = ap (owns i) free in let q = no_own i l in let o = r.bits i l in
      let g = get_or-set_other s.words room_word (bit_word i) y 0 (λ e. omega arith) in (omega arith, omega arith))

  pub came_all : (s : GateState) (id : ℕ) (r : IsGate v.seats s) → get_elem? s.views id ≡ some v → v.spot ≡ Free → After s id room_word ((get_or s.words room_word 0 + (2 ^ 64 - 1)) % 2 ^ 64) (entered_view v (get_or s.words room_word 0) (total busy_in s.views))
  came_all s id r at free =
      let n : ℕ = get_or s.words room_word 0 in let y : ℕ = (n + (2 ^ 64 - 1)) % 2 ^ 64 in
      let room = r.room in let some_seats = r.some_seats in let busy_within = few_within v.seats s r in let first = reach_first s.views in let inside = r.inside in
      chosen (λ (q : Spot). After s id room_word y (record v { spot = q; met = total busy_in s.views })) (eqb (n - 256) 0) Slow (spot_at m 0)
      (λ t. let full = eqb-true (n - 256) 0 t in comes_at s id r at free Slow (omega arith) refl (λ i l. refl) (λ i. refl) refl (omega arith) (λ i l. let q = r.behind i l in omega arith))
      (λ f. let far = ne_from (n - 256) 0 f in
      let behind : (i : ℕ) → i < m → total (reaches_in i) s.views + up_to i 0 + i ≤ m = λ i l.
      ⊎_elim (λ (e : i ≡ 0). let z : total (reaches_in i) s.views ≡ total (reaches_in 0) s.views = ap (λ (k : ℕ). total (reaches_in k) s.views) e in omega arith) (λ (d : i ≢ 0). let q = r.behind i l in omega arith) (same_or i 0) in
      chosen (λ (q : Spot). After s id room_word y (record v { spot = q; met = total busy_in s.views })) (eqb 1 m) (Taking 0) (Testing 0)
      (λ t. let one = eqb-true 1 m t in comes_at s id r at free (Taking 0) (omega arith) refl (λ i l. absurd (omega arith)) (λ i. refl) refl (omega arith) behind)
      (λ g. let more = ne_from 1 m g in comes_at s id r at free (Testing 0) (omega arith) refl (λ i l. refl) (λ i. refl) refl (omega arith) behind))

  pub comes : (slots id : ℕ) → v.spot ≡ Free → Allows (IsGate v.seats) slots id me room_word (λ n. (n + (2 ^ 64 - 1)) % 2 ^ 64) (meets_others (step slots room_word 1 0 none) me)
  comes slots id free s r _ at _ = (
    entered_view v (get_or s.words room_word 0) (total busy_in s.views),
    keeps,
    tt,
    came_all s id r at free,
    (total busy_in s.views, record { state = s; id = id; ruled = r; sits = at; others = refl }, r.room, refl),
  )

  -- the bit i was clear: its number is the session's
  sets_clear : (s : GateState) (id i : ℕ) (r : IsGate v.seats s) → get_elem? s.views id ≡ some v → v.spot ≡ Testing i → get_or s.words (bit_word i) 0 ≡ 0 → After s id (bit_word i) 1 (view_at v (Taking i))
  sets_clear s id i r at e clear =
      let low : i + 1 < m = low_at s id v r at is (Testing i) e in let wide = r.wide in let own = r.bits i low in
      changes_plain s id v r at is (Taking i) v.visits v.kept v.met (set s.words (bit_word i) 1) (omega arith) (length-set s.words (bit_word i) 1)
      (λ j. sym (ap (is_out j) e)) (sym (ap (λ (x : Spot). kept_at x v.kept) e)) (λ f. refl)
      (let t = total_is s id v r at is (Taking i) v.visits v.kept v.met busy_in in let b : busy v.spot ≡ 1 = ap busy e in let g = get_or-set_other s.words (bit_word i) room_word 1 0 (λ z. omega arith) in let q = r.room in omega arith)
      (let t = total_is s id v r at is (Taking i) v.visits v.kept v.met within_in in let b : within v.spot ≡ 1 = ap within e in let q = r.inside in omega arith)
      (λ j l. let t = total_is s id v r at is (Taking i) v.visits v.kept v.met (reaches_in j) in let b : reaches j v.spot ≡ up_to j i = ap (reaches j) e in let q = r.behind j l in omega arith)
      (λ j l. let t = total_is s id v r at is (Taking i) v.visits v.kept v.met (owns_in j) in let b : owns j v.spot ≡ 0 = ap (owns j) e in let o = r.bits j l in ⊎_elim
      (λ (h : j ≡ i). let g : get_or (set s.words (bit_word i) 1) (bit_word j) 0 ≡ 1 = ap (λ (k : ℕ). get_or (set s.words (bit_word i) 1) (bit_word k) 0) h ∙ get_or-set_same s.words (bit_word i) 1 0 (omega arith) in
      let c : get_or s.words (bit_word j) 0 ≡ 0 = ap (λ (k : ℕ). get_or s.words (bit_word k) 0) h ∙ clear in (omega arith, omega arith))
      (λ (d : j ≢ i). let g = get_or-set_other s.words (bit_word i) (bit_word j) 1 0 (λ z. d (omega arith)) in (omega arith, omega arith)) (same_or j i))

  -- it was set: the session goes on to the next number, and the owner of this one stays behind
  sets_again : (s : GateState) (id i : ℕ) (r : IsGate v.seats s) → get_elem? s.views id ≡ some v → v.spot ≡ Testing i → get_or s.words (bit_word i) 0 ≢ 0 → (a : Spot)
      → MayStand m v.met a → busy a ≡ 1 → within a ≡ 1 → ((j : ℕ) → reaches j a ≡ up_to j (i + 1)) → ((j : ℕ) → j + 1 < m → owns j a ≡ 0) → ((j : ℕ) → is_out j a ≡ 0) → kept_at a v.kept ≡ []
      → After s id (bit_word i) 1 (view_at v a)
  sets_again s id i r at e set_bit a low' a_busy a_within a_reaches a_owns a_out a_kept =
      let low : i + 1 < m = low_at s id v r at is (Testing i) e in let wide = r.wide in let own = r.bits i low in
      let one : get_or s.words (bit_word i) 0 ≡ 1 = omega arith in
      let here : tests i v.spot ≤ total (λ (x : View). tests i x.spot) s.views = total_has (λ (x : View). tests i x.spot) s.views id v at in
      let mine : tests i v.spot ≡ just i i = ap (tests i) e in
      let three = total_le3 (reaches_in (i + 1)) (owns_in i) (λ (x : View). tests i x.spot) (reaches_in i) s.views (λ (x : View). further_on i x.spot) in
      let beside = r.behind i (omega arith) in
      changes_plain s id v r at is a v.visits v.kept v.met (set s.words (bit_word i) 1) low' (length-set s.words (bit_word i) 1)
      (λ j. a_out j ∙ sym (ap (is_out j) e)) (a_kept ∙ sym (ap (λ (x : Spot). kept_at x v.kept) e)) (λ f. refl)
      (let t = total_is s id v r at is a v.visits v.kept v.met busy_in in let b : busy v.spot ≡ 1 = ap busy e in let g = get_or-set_other s.words (bit_word i) room_word 1 0 (λ z. omega arith) in let q = r.room in omega arith)
      (let t = total_is s id v r at is a v.visits v.kept v.met within_in in let b : within v.spot ≡ 1 = ap within e in let q = r.inside in omega arith)
      (λ j l. let t = total_is s id v r at is a v.visits v.kept v.met (reaches_in j) in let b : reaches j v.spot ≡ up_to j i = ap (reaches j) e in let c = a_reaches j in let q = r.behind j l in
      ⊎_elim (λ (h : j ≡ i + 1). let z : total (reaches_in j) s.views ≡ total (reaches_in (i + 1)) s.views = ap (λ (k : ℕ). total (reaches_in k) s.views) h in omega arith) (λ (d : j ≢ i + 1). omega arith) (same_or j (i + 1)))
      (λ j l. let t = total_is s id v r at is a v.visits v.kept v.met (owns_in j) in let b : owns j v.spot ≡ 0 = ap (owns j) e in let c = a_owns j l in let o = r.bits j l in ⊎_elim
      (λ (h : j ≡ i). let g : get_or (set s.words (bit_word i) 1) (bit_word j) 0 ≡ 1 = ap (λ (k : ℕ). get_or (set s.words (bit_word i) 1) (bit_word k) 0) h ∙ get_or-set_same s.words (bit_word i) 1 0 (omega arith) in
      let x : get_or s.words (bit_word j) 0 ≡ 1 = ap (λ (k : ℕ). get_or s.words (bit_word k) 0) h ∙ one in (omega arith, omega arith))
      (λ (d : j ≢ i). let g = get_or-set_other s.words (bit_word i) (bit_word j) 1 0 (λ z. d (omega arith)) in (omega arith, omega arith)) (same_or j i))

  pub tested_all : (s : GateState) (id i : ℕ) (r : IsGate v.seats s) → get_elem? s.views id ≡ some v → v.spot ≡ Testing i → After s id (bit_word i) 1 (view_at v (spot_tested m (get_or s.words (bit_word i) 0) (Testing i)))
  tested_all s id i r at e =
      let n : ℕ = get_or s.words (bit_word i) 0 in let low : i + 1 < m = low_at s id v r at is (Testing i) e in
      chosen (λ (q : Spot). After s id (bit_word i) 1 (view_at v q)) (eqb n 0) (Taking i) (spot_at m (i + 1))
      (λ t. sets_clear s id i r at e (eqb-true n 0 t))
      (λ f. chosen (λ (q : Spot). After s id (bit_word i) 1 (view_at v q)) (eqb (i + 1 + 1) m) (Taking (i + 1)) (Testing (i + 1))
      (λ t. let last = eqb-true (i + 1 + 1) m t in sets_again s id i r at e (ne_from n 0 f) (Taking (i + 1)) (omega arith) refl refl (λ j. refl) (λ j l. omega arith) (λ j. refl) refl)
      (λ g. let on = ne_from (i + 1 + 1) m g in sets_again s id i r at e (ne_from n 0 f) (Testing (i + 1)) (omega arith) refl refl (λ j. refl) (λ j l. refl) (λ j. refl) refl))

  pub test_bit : (slots id i : ℕ) → v.spot ≡ Testing i → Allows (IsGate v.seats) slots id me (bit_word i) (λ _. 1) (tested_bit (step slots (bit_word i) 1 0 none) me)
  test_bit slots id i e s r _ at _ = let n : ℕ = get_or s.words (bit_word i) 0 in
      (view_at v (spot_tested m n v.spot), keeps, tt, subst (λ (q : Spot). After s id (bit_word i) 1 (view_at v q)) (sym (ap (spot_tested m n) e)) (tested_all s id i r at e), refl)

  pub cleared_all : (s : GateState) (id i : ℕ) (r : IsGate v.seats s) → get_elem? s.views id ≡ some v → v.spot ≡ Clearing i → After s id (bit_word i) 0 (view_at v Giving)
  cleared_all s id i r at e =
      let low : i + 1 < m = low_at s id v r at is (Clearing i) e in let wide = r.wide in let own = r.bits i low in
      let here : owns i v.spot ≤ total (owns_in i) s.views = total_has (owns_in i) s.views id v at in
      let mine : owns i v.spot ≡ just i i = ap (owns i) e in
      changes_plain s id v r at is Giving v.visits v.kept v.met (set s.words (bit_word i) 0) tt (length-set s.words (bit_word i) 0)
      (λ j. sym (ap (is_out j) e)) (sym (ap (λ (x : Spot). kept_at x v.kept) e)) (λ f. refl)
      (let t = total_is s id v r at is Giving v.visits v.kept v.met busy_in in let b : busy v.spot ≡ 1 = ap busy e in let g = get_or-set_other s.words (bit_word i) room_word 0 0 (λ z. omega arith) in let q = r.room in omega arith)
      (let t = total_is s id v r at is Giving v.visits v.kept v.met within_in in let b : within v.spot ≡ 1 = ap within e in let q = r.inside in omega arith)
      (λ j l. let t = total_is s id v r at is Giving v.visits v.kept v.met (reaches_in j) in let q = r.behind j l in omega arith)
      (λ j l. let t = total_is s id v r at is Giving v.visits v.kept v.met (owns_in j) in let b : owns j v.spot ≡ just j i = ap (owns j) e in let o = r.bits j l in ⊎_elim
      (λ (h : j ≡ i). let g : get_or (set s.words (bit_word i) 0) (bit_word j) 0 ≡ 0 = ap (λ (k : ℕ). get_or (set s.words (bit_word i) 0) (bit_word k) 0) h ∙ get_or-set_same s.words (bit_word i) 0 0 (omega arith) in (omega arith, omega arith))
      (λ (d : j ≢ i). let g = get_or-set_other s.words (bit_word i) (bit_word j) 0 0 (λ z. d (omega arith)) in (omega arith, omega arith)) (same_or j i))

  pub clear_bit : (slots id i : ℕ) → v.spot ≡ Clearing i → Allows (IsGate v.seats) slots id me (bit_word i) (λ _. 0) (λ _. cleared_bit (step slots (bit_word i) 0 0 none) me 0)
  clear_bit slots id i e s r _ at _ = (view_at v Giving, keeps, tt, cleared_all s id i r at e, refl)

  -- a session gives its place back, and has noted these visits
  gives_at : (s : GateState) (id : ℕ) (r : IsGate v.seats s) → get_elem? s.views id ≡ some v → busy v.spot ≡ 1 → ((i : ℕ) → owns i v.spot ≡ 0) → ((i : ℕ) → is_out i v.spot ≡ 0)
      → kept_at v.spot v.kept ≡ [] → (vs : List Visit) → ((f : ℕ → ℕ) → total (fast_worth f) vs ≡ total (fast_worth f) v.visits)
      → After s id room_word ((get_or s.words room_word 0 + 1) % 2 ^ 64) (record v { spot = Free; visits = vs })
  gives_at s id r at is_busy no_own no_out no_kept vs fasts =
      let n : ℕ = get_or s.words room_word 0 in let y : ℕ = (n + 1) % 2 ^ 64 in
      let room = r.room in let small = r.small in let wide = r.wide in let some_seats = r.some_seats in
      let here : busy v.spot ≤ total busy_in s.views = total_has busy_in s.views id v at in
      let y_is : y ≡ n + 1 = omega arith in
      changes_plain s id v r at is Free vs v.kept v.met (set s.words room_word y) tt (length-set s.words room_word y)
      (λ i. sym (no_out i)) (sym no_kept) fasts
      (let t = total_is s id v r at is Free vs v.kept v.met busy_in in let g = get_or-set_same s.words room_word y 0 (omega arith) in omega arith)
      (let t = total_is s id v r at is Free vs v.kept v.met within_in in let q = r.inside in omega arith)
      (λ i l. let t = total_is s id v r at is Free vs v.kept v.met (reaches_in i) in let q = r.behind i l in omega arith)
      (λ i l. let t = total_is s id v r at is Free vs v.kept v.met (owns_in i) in let z = no_own i in let o = r.bits i l in let g = get_or-set_other s.words room_word (bit_word i) y 0 (λ e. omega arith) in (omega arith, omega arith))

  pub gave_all : (s : GateState) (id : ℕ) (r : IsGate v.seats s) → get_elem? s.views id ≡ some v → v.spot ≡ Giving → After s id room_word ((get_or s.words room_word 0 + 1) % 2 ^ 64) (view_at v Free)
  gave_all s id r at e = gives_at s id r at (ap busy e) (λ i. ap (owns i) e) (λ i. ap (is_out i) e) (ap (λ (x : Spot). kept_at x v.kept) e) v.visits (λ f. refl)

  pub gave_slow_all : (s : GateState) (id x : ℕ) (r : IsGate v.seats s) → get_elem? s.views id ≡ some v → v.spot ≡ Slow → After s id room_word ((get_or s.words room_word 0 + 1) % 2 ^ 64) (record v { spot = Free; visits = v.visits ++ (record { seat = x; fast = false }) ∷ [] })
  gave_slow_all s id x r at e = gives_at s id r at (ap busy e) (λ i. ap (owns i) e) (λ i. ap (is_out i) e) (ap (λ (z : Spot). kept_at z v.kept) e) (v.visits ++ (record { seat = x; fast = false }) ∷ [])
      (λ f. let q = total_append (fast_worth f) v.visits (record { seat = x; fast = false } ∷ []) in omega arith)

  pub gives : (slots id : ℕ) → v.spot ≡ Giving → Allows (IsGate v.seats) slots id me room_word (λ n. (n + 1) % 2 ^ 64) (gave (step slots room_word 1 0 none) me)
  gives slots id e s r _ at _ = (view_at v Free, keeps, tt, gave_all s id r at e, refl)

  pub gives_slow : (slots id x : ℕ) → v.spot ≡ Slow → Allows (IsGate v.seats) slots id me room_word (λ n. (n + 1) % 2 ^ 64) (gave_slow x (step slots room_word 1 0 none) me)
  gives_slow slots id x e s r _ at _ = (record v { spot = Free; visits = v.visits ++ (record { seat = x; fast = false }) ∷ [] }, keeps, tt, gave_slow_all s id x r at e, refl)
