-- Each move keeps the laws, and the laws make the machine safe.
use Rattle.std.proofs.Common.{◌≡◌, ◌≢◌, ◌⊎◌, ℕ, zero, suc, ◌+◌, ◌-◌, ◌<◌, ◌≤◌, Bool, true, false, cond, eqb, sym, refl, ap, ◌∙◌, subst, ⊎_elim, inl, inr, arith}
use Rattle.std.proofs.lemmas.Bool.Decides.{nat_tests}
use Rattle.std.proofs.lemmas.Bool.{cases_lt, eqb-true, eq-eqb}
use Rattle.kex_core.specs.declared.place.Place.{Place}
use Rattle.kex_core.specs.declared.place.Place.TheVariants.{Out, Dec, Mark, Look, Spin, Naming, Named, Holding, Clearing, Inc, Unmark}
use Rattle.kex_core.specs.Nets.{Plan, Valid, over, before}
use Rattle.kex_core.specs.Worlds.{Machine, put, due, place_past, back, value_found, after, x_after, q_after, bit_after, card_after, machine_after_access}
use Rattle.kex_core.specs.Laws.{Stage, Placed, Waits}
use Rattle.kex_core.proofs.Thresholds.{counted_to, within_to, between_to, below, reaches, owns, holds, counted, between, between_others, KeptTo}
use Rattle.kex_core.proofs.Sums.{same_or, chosen, yes_is, put_here, put_else, put_at, over_le, over_same, over_lt, over_lt_two, over_one, over_has, over_but, over_some}
use Rattle.kex_core.proofs.Moves.{below_yes, below_no, below_le, below_one, due_below}
use Rattle.kex_core.proofs.Steps.{split, usual_counted, usual_between, placed_due, placed_local, count_local, between_local, reach_local, owns_local, holds_local}
use Rattle.kex_core.proofs.Bounds.{Base, counted_between, within_le, inside_le, due_inside, uncounted}

naming_is : (j i : ℕ) → Naming j ≡ Naming i → j ≡ i
naming_is j i e = cc

spin_is : (i j : ℕ) → Spin i ≡ Spin j → i ≡ j
spin_is i j e = cc

naming_or : (d : Place) (i n : ℕ) → ((d ≡ Naming i) × (n ≢ 0)) ⊎ (d ≡ Naming i → n ≡ 0)
naming_or Out i n = inr (λ e. cc)
naming_or (Dec j) i n = inr (λ e. cc)
naming_or (Mark j) i n = inr (λ e. cc)
naming_or (Look j) i n = inr (λ e. cc)
naming_or (Spin j) i n = inr (λ e. cc)
naming_or (Naming j) i n = ⊎_elim (λ (e : j ≡ i). ⊎_elim (λ (z : n ≡ 0). inr (λ _. z)) (λ (z : n ≢ 0). inl (ap Naming e, z)) (same_or n 0)) (λ (d : j ≢ i). inr (λ e. absurd (d (naming_is j i e)))) (same_or j i)
naming_or (Named j) i n = inr (λ e. cc)
naming_or (Holding j) i n = inr (λ e. cc)
naming_or (Clearing j) i n = inr (λ e. cc)
naming_or (Inc j) i n = inr (λ e. cc)
naming_or (Unmark j) i n = inr (λ e. cc)

reach_or : (s i : ℕ) → reaches (i + 1) (Named s) ≤ reaches i (Named s)
reach_or s i = grind (arith, nat_tests)

most : (s i : ℕ) → reaches i (Named s) ≤ 1
most s i = grind (arith, nat_tests)

least : (s i : ℕ) → 0 ≤ reaches i (Named s)
least s i = omega arith

at_reach : (s i : ℕ) → 0 < owns i (Named s) → (reaches (i + 1) (Named s) ≡ 0) × (reaches i (Named s) ≡ 1)
at_reach s i h = grind (arith, nat_tests)

owner_least : (s i : ℕ) → owns i (Named s) ≤ reaches i (Named s)
owner_least s i = grind (arith, nat_tests)

owner_some : (s i : ℕ) → 0 ≤ owns i (Named s)
owner_some s i = omega arith

reach_most : (i : ℕ) (d : Place) → reaches i d ≤ 1
reach_most i Out = omega arith
reach_most i (Dec j) = omega arith
reach_most i (Mark j) = omega arith
reach_most i (Look j) = omega arith
reach_most i (Spin j) = omega arith
reach_most i (Naming s) = most s i
reach_most i (Named s) = most s i
reach_most i (Holding s) = most s i
reach_most i (Clearing s) = most s i
reach_most i (Inc j) = omega arith
reach_most i (Unmark j) = omega arith

reach_less : (i : ℕ) (d : Place) → reaches (i + 1) d ≤ reaches i d
reach_less i Out = omega arith
reach_less i (Dec j) = omega arith
reach_less i (Mark j) = omega arith
reach_less i (Look j) = omega arith
reach_less i (Spin j) = omega arith
reach_less i (Naming s) = reach_or s i
reach_less i (Named s) = reach_or s i
reach_less i (Holding s) = reach_or s i
reach_less i (Clearing s) = reach_or s i
reach_less i (Inc j) = omega arith
reach_less i (Unmark j) = omega arith

owner_reach : (i : ℕ) (d : Place) → 0 < owns i d → (reaches (i + 1) d ≡ 0) × (reaches i d ≡ 1)
owner_reach i Out h = absurd (omega arith)
owner_reach i (Dec j) h = absurd (omega arith)
owner_reach i (Mark j) h = absurd (omega arith)
owner_reach i (Look j) h = absurd (omega arith)
owner_reach i (Spin j) h = absurd (omega arith)
owner_reach i (Naming s) h = absurd (omega arith)
owner_reach i (Named s) h = at_reach s i h
owner_reach i (Holding s) h = at_reach s i h
owner_reach i (Clearing s) h = at_reach s i h
owner_reach i (Inc j) h = absurd (omega arith)
owner_reach i (Unmark j) h = absurd (omega arith)

owns_reach : (i : ℕ) (d : Place) → owns i d ≤ reaches i d
owns_reach i Out = omega arith
owns_reach i (Dec j) = omega arith
owns_reach i (Mark j) = omega arith
owns_reach i (Look j) = omega arith
owns_reach i (Spin j) = omega arith
owns_reach i (Naming s) = least s i
owns_reach i (Named s) = owner_least s i
owns_reach i (Holding s) = owner_least s i
owns_reach i (Clearing s) = owner_least s i
owns_reach i (Inc j) = omega arith
owns_reach i (Unmark j) = omega arith

holds_owns : (i : ℕ) (d : Place) → holds i d ≤ owns i d
holds_owns i Out = omega arith
holds_owns i (Dec j) = omega arith
holds_owns i (Mark j) = omega arith
holds_owns i (Look j) = omega arith
holds_owns i (Spin j) = omega arith
holds_owns i (Naming s) = omega arith
holds_owns i (Named s) = owner_some s i
holds_owns i (Holding s) = omega arith
holds_owns i (Clearing s) = owner_some s i
holds_owns i (Inc j) = omega arith
holds_owns i (Unmark j) = omega arith

bit_most : (d : Place) (b : ℕ → ℕ) (i : ℕ) → b i ≤ 1 → bit_after d b i ≤ 1
bit_most Out b i h = h
bit_most (Dec j) b i h = h
bit_most (Mark j) b i h = h
bit_most (Look j) b i h = h
bit_most (Spin j) b i h = h
bit_most (Naming s) b i h = chosen (λ (x : ℕ). x ≤ 1) (eqb i s) 1 (b i) (λ _. omega arith) (λ _. h)
bit_most (Named s) b i h = h
bit_most (Holding s) b i h = h
bit_most (Clearing s) b i h = chosen (λ (x : ℕ). x ≤ 1) (eqb i s) 0 (b i) (λ _. omega arith) (λ _. h)
bit_most (Inc j) b i h = h
bit_most (Unmark j) b i h = h

card_most : (d : Place) (b : ℕ → ℕ) (i : ℕ) → b i ≤ 1 → card_after d b i ≤ 1
card_most Out b i h = h
card_most (Dec j) b i h = h
card_most (Mark j) b i h = h
card_most (Look j) b i h = h
card_most (Spin j) b i h = h
card_most (Naming s) b i h = h
card_most (Named s) b i h = chosen (λ (x : ℕ). x ≤ 1) (eqb i s) 1 (b i) (λ _. omega arith) (λ _. h)
card_most (Holding s) b i h = chosen (λ (x : ℕ). x ≤ 1) (eqb i s) 0 (b i) (λ _. omega arith) (λ _. h)
card_most (Clearing s) b i h = h
card_most (Inc j) b i h = h
card_most (Unmark j) b i h = h

pub base_of : (net : Plan) (w : Machine) → KeptTo net w → Base net w
base_of net w kept = record { placed = kept.placed; counters = kept.counters; watched = kept.watched }

-- one party at most owns a name
pub owns_one : (net : Plan) (w : Machine) → KeptTo net w → (s : ℕ) → s < net.width → over net.parties (λ p. owns s (w.place p)) ≤ 1
owns_one net w kept s l = ⊎_elim (λ (a : s + 1 < net.width). let b = kept.bits s a in let c = kept.bit_small s a in omega arith)
    (λ (a : net.width ≤ s + 1). let b = over_le net.parties (λ (p : ℕ). owns s (w.place p)) (λ (p : ℕ). reaches s (w.place p)) (λ p _. owns_reach s (w.place p)) in let c = kept.names s l in omega arith) (cases_lt (s + 1) net.width)

module _ (net : Plan) (valid : Valid net) (w : Machine) (kept : KeptTo net w) (p : ℕ) (mine : p < net.parties) where
  abbrev spot : Place
  spot = due net p (w.place p)

  abbrev next : Place
  next = after net p spot (value_found w p spot)

  -- the world after the access
  abbrev moved : Machine
  moved = machine_after_access net w p spot

  abbrev place : ℕ → Place
  place = put w.place p next

  base : Base net w
  base = base_of net w kept

  spot_placed : Placed net p spot
  spot_placed = placed_due net valid p mine (w.place p) (kept.placed p mine)

  place_here : place p ≡ next
  place_here = put_here w.place p next

  place_else : (q : ℕ) → q ≢ p → place q ≡ w.place q
  place_else q d = put_else w.place p next q d

  at_place : (K : ℕ → Place → Type 0) → K p next → ((q : ℕ) → q < net.parties → q ≢ p → K q (w.place q)) → (q : ℕ) → q < net.parties → K q (place q)
  at_place K mine others q l = ⊎_elim
      (λ (e : q ≡ p). subst (λ (r : ℕ). K r (place r)) (sym e) (subst (K p) (sym place_here) mine))
      (λ (d : q ≢ p). subst (K q) (sym (place_else q d)) (others q l d)) (same_or q p)

  -- a sum over the places before and after
  sums : (f : ℕ → Place → ℕ) → over net.parties (λ q. f q (place q)) + f p (w.place p) ≡ over net.parties (λ q. f q (w.place q)) + f p next
  sums f = let a = over_one net.parties (λ (q : ℕ). f q (w.place q)) (λ (q : ℕ). f q (place q)) p mine (λ q _ d. ap (f q) (place_else q d)) in let b : f p (place p) ≡ f p next = ap (f p) place_here in omega arith

  spot_stage : (j : ℕ) → spot ≡ Dec j → Stage net p j
  spot_stage j e = subst (Placed net p) e spot_placed

  unmark_stage : (j : ℕ) → spot ≡ Unmark j → Stage net p j
  unmark_stage j e = subst (Placed net p) e spot_placed

  pub dec_room : (j : ℕ) → spot ≡ Dec j → 0 < w.x j
  dec_room j e = let s = spot_stage j e in uncounted net valid w base p j mine s.0
      (ap (λ (d : Place). below net p (counted_to net.stages d) j) e ∙ below_no net p j j (λ _ h. absurd (omega arith)))
      (ap (λ (d : Place). below net p (within_to net.stages d) j) e ∙ below_yes net p (j + 1) j s.1 (omega arith))

  pub unmark_room : (j : ℕ) → spot ≡ Unmark j → 0 < w.x j
  unmark_room j e = let s = unmark_stage j e in uncounted net valid w base p j mine s.0
      (ap (λ (d : Place). below net p (counted_to net.stages d) j) e ∙ below_no net p j j (λ _ h. absurd (omega arith)))
      (ap (λ (d : Place). below net p (within_to net.stages d) j) e ∙ below_yes net p (j + 1) j s.1 (omega arith))

  count_after : (j : ℕ) → j < net.stages → x_after spot w.x j + over net.parties (λ q. below net q (counted_to net.stages (place q)) j) ≡ net.cap j + 1
  count_after j l = let a = sums (λ (q : ℕ) (d : Place). below net q (counted_to net.stages d) j) in let b = kept.counters j l in
      let c = due_below net valid p mine (counted_to net.stages) (usual_counted net valid p mine) (split net p) (w.place p) j l in
      let d = count_local net valid p mine w spot spot_placed dec_room j l in omega arith

  placed_after : (q : ℕ) → q < net.parties → Placed net q (place q)
  placed_after = at_place (λ (q : ℕ) (d : Place). Placed net q d) (placed_local net valid p mine spot (value_found w p spot) spot_placed) (λ q l _. kept.placed q l)

  -- where a counter comes to its end: it was there, or this access brought it there
  x_cases : (j : ℕ) → x_after spot w.x j ≡ 0 → (w.x j ≡ 0) ⊎ ((spot ≡ Dec j) × (w.x j ≡ 1))
  x_cases j z = go spot refl z
    where
      go : (d : Place) → spot ≡ d → x_after d w.x j ≡ 0 → (w.x j ≡ 0) ⊎ ((spot ≡ Dec j) × (w.x j ≡ 1))
      go Out e z = inl z
      go (Dec i) e z = ⊎_elim
          (λ (k : j ≡ i). let r : spot ≡ Dec j = e ∙ ap Dec (sym k) in let a = dec_room j r in let b = put_at w.x i (w.x i - 1) j k in let c : w.x j ≡ w.x i = ap w.x k in inr (r, omega arith))
          (λ (k : j ≢ i). let b = put_else w.x i (w.x i - 1) j k in inl (omega arith)) (same_or j i)
      go (Mark i) e z = inl z
      go (Look i) e z = inl z
      go (Spin i) e z = inl z
      go (Naming i) e z = inl z
      go (Named i) e z = inl z
      go (Holding i) e z = inl z
      go (Clearing i) e z = inl z
      go (Inc i) e z = ⊎_elim
          (λ (k : j ≡ i). let b = put_at w.x i (w.x i + 1) j k in absurd (omega arith))
          (λ (k : j ≢ i). let b = put_else w.x i (w.x i + 1) j k in inl (omega arith)) (same_or j i)
      go (Unmark i) e z = inl z

  -- a word Q is left alone, or this party writes it
  q_cases : (j : ℕ) → (q_after p spot w.q j ≡ w.q j) ⊎ (((spot ≡ Mark j) ⊎ (spot ≡ Unmark j)) × (q_after p spot w.q j ≡ p + 1))
  q_cases j = go spot refl
    where
      go : (d : Place) → spot ≡ d → (q_after p d w.q j ≡ w.q j) ⊎ (((spot ≡ Mark j) ⊎ (spot ≡ Unmark j)) × (q_after p d w.q j ≡ p + 1))
      go Out e = inl refl
      go (Dec i) e = inl refl
      go (Mark i) e = ⊎_elim (λ (k : j ≡ i). inr (inl (e ∙ ap Mark (sym k)), put_at w.q i (p + 1) j k)) (λ (k : j ≢ i). inl (put_else w.q i (p + 1) j k)) (same_or j i)
      go (Look i) e = inl refl
      go (Spin i) e = inl refl
      go (Naming i) e = inl refl
      go (Named i) e = inl refl
      go (Holding i) e = inl refl
      go (Clearing i) e = inl refl
      go (Inc i) e = inl refl
      go (Unmark i) e = ⊎_elim (λ (k : j ≡ i). inr (inr (e ∙ ap Unmark (sym k)), put_at w.q i (p + 1) j k)) (λ (k : j ≢ i). inl (put_else w.q i (p + 1) j k)) (same_or j i)

  here_now : (d e : Place) → spot ≡ d → after net p d (value_found w p d) ≡ e → place p ≡ e
  here_now d e a b = place_here ∙ (ap (λ (r : Place). after net p r (value_found w p r)) a ∙ b)

  choose_yes : (b : Bool) (x y : Place) → b ≡ true → cond b x y ≡ x
  choose_yes true x y e = refl
  choose_yes false x y e = absurd (cc)

  my_watch : (j : ℕ) → w.x j ≡ 0 → Waits w p j → (place p ≡ Mark j) ⊎ (((place p ≡ Look j) ⊎ (place p ≡ Spin j)) × (q_after p spot w.q j ≡ p + 1))
  my_watch j z h = ⊎_elim
      (λ (e : w.place p ≡ Mark j). let s : spot ≡ Mark j = ap (due net p) e in inr (inl (here_now (Mark j) (Look j) s refl), ap (λ (d : Place). q_after p d w.q j) s ∙ put_here w.q j (p + 1)))
      (λ (t : ((w.place p ≡ Look j) ⊎ (w.place p ≡ Spin j)) × (w.q j ≡ p + 1)). ⊎_elim
      (λ (e : w.place p ≡ Look j). let s : spot ≡ Look j = ap (due net p) e in inr (inr (here_now (Look j) (Spin j) s (choose_yes (eqb (w.x j) 0) (Spin j) (place_past net j) (eq-eqb (w.x j) 0 z))), ap (λ (d : Place). q_after p d w.q j) s ∙ t.1))
      (λ (e : w.place p ≡ Spin j). let s : spot ≡ Spin j = ap (due net p) e in inr (inr (here_now (Spin j) (Spin j) s (choose_yes (eqb (w.q j) (p + 1)) (Spin j) (place_past net j) (eq-eqb (w.q j) (p + 1) t.1))), ap (λ (d : Place). q_after p d w.q j) s ∙ t.1)) t.0) h

  their_watch : (q j : ℕ) → q ≢ p → q_after p spot w.q j ≡ w.q j → Waits w q j → (place q ≡ Mark j) ⊎ (((place q ≡ Look j) ⊎ (place q ≡ Spin j)) × (q_after p spot w.q j ≡ q + 1))
  their_watch q j d same h = let e = place_else q d in ⊎_elim (λ (a : w.place q ≡ Mark j). inl (e ∙ a))
      (λ (t : ((w.place q ≡ Look j) ⊎ (w.place q ≡ Spin j)) × (w.q j ≡ q + 1)). inr (⊎_elim (λ (a : w.place q ≡ Look j). inl (e ∙ a)) (λ (a : w.place q ≡ Spin j). inr (e ∙ a)) t.0, same ∙ t.1)) h

  full_after : (j : ℕ) → j < net.stages → x_after spot w.x j ≡ 0 → (q : ℕ) × (q < net.parties) × Waits moved q j
  full_after j l z = ⊎_elim
      (λ (a : w.x j ≡ 0). let r = kept.watched j l a in ⊎_elim
      (λ (e : r.0 ≡ p). (p, mine, my_watch j a (subst (λ (q : ℕ). Waits w q j) e r.2)))
      (λ (d : r.0 ≢ p). ⊎_elim (λ (s : q_after p spot w.q j ≡ w.q j). (r.0, r.1, their_watch (r.0) j d s r.2))
      (λ (t : ((spot ≡ Mark j) ⊎ (spot ≡ Unmark j)) × (q_after p spot w.q j ≡ p + 1)). ⊎_elim
      (λ (s : spot ≡ Mark j). (p, mine, inr (inl (here_now (Mark j) (Look j) s refl), t.1)))
      (λ (s : spot ≡ Unmark j). let u = unmark_room j s in absurd (omega arith)) t.0) (q_cases j)) (same_or (r.0) p))
      (λ (t : (spot ≡ Dec j) × (w.x j ≡ 1)). (p, mine, inl (here_now (Dec j) (Mark j) t.0 (choose_yes (eqb (w.x j) 1) (Mark j) (place_past net j) (eq-eqb (w.x j) 1 t.1))))) (x_cases j z)

  base_after : Base net moved
  base_after = record { placed = placed_after; counters = count_after; watched = full_after }

  -- in all, with the waiting party
  between_was : (q j : ℕ) → q < net.parties → w.place q ≡ Spin j → w.q j ≡ q + 1 → net.cap j + 1 ≤ between net w j
  between_was q j l e n = let a = kept.waits q j l e n in
      let s : Stage net q j = subst (Placed net q) e (kept.placed q l) in
      let b = over_but net.parties (λ (r : ℕ). below net r (between_to net.stages (w.place r)) j) q l in
      let c : below net q (between_to net.stages (w.place q)) j ≡ 1 = ap (λ (d : Place). below net q (between_to net.stages d) j) e ∙ below_yes net q (j + 1) j s.1 (omega arith) in omega arith

  between_stays : (j : ℕ) → j < net.stages → spot ≢ Unmark j → between net w j ≤ over net.parties (λ q. below net q (between_to net.stages (place q)) j)
  between_stays j l d = let a = sums (λ (q : ℕ) (d : Place). below net q (between_to net.stages d) j) in
      let c = due_below net valid p mine (between_to net.stages) (usual_between net valid p mine) (split net p) (w.place p) j l in
      let b = between_local net valid p mine spot (value_found w p spot) spot_placed j l d in omega arith

  -- a place Spin after the move
  spin_cases : (j : ℕ) → next ≡ Spin j → ((spot ≡ Look j) × (w.x j ≡ 0)) ⊎ ((spot ≡ Spin j) × (w.q j ≡ p + 1))
  spin_cases j e = go spot refl e
    where
      no_pass : (i j : ℕ) → place_past net i ≡ Spin j → ⊥
      no_pass i j = chosen (λ (q : Place). q ≡ Spin j → ⊥) (eqb (net.next i) net.stages) (cond (eqb net.width 1) (Named 0) (Naming 0)) (Dec (net.next i))
          (λ _. chosen (λ (q : Place). q ≡ Spin j → ⊥) (eqb net.width 1) (Named 0) (Naming 0) (λ _ h. cc) (λ _ h. cc)) (λ _ h. cc)

      no_back : (i j : ℕ) → back net p i ≡ Spin j → ⊥
      no_back i j = chosen (λ (q : Place). q ≡ Spin j → ⊥) (eqb (net.start p) i) Out (Inc (before net p i)) (λ _ h. cc) (λ _ h. cc)

      go : (d : Place) → spot ≡ d → after net p d (value_found w p d) ≡ Spin j → ((spot ≡ Look j) × (w.x j ≡ 0)) ⊎ ((spot ≡ Spin j) × (w.q j ≡ p + 1))
      go Out s h = absurd (cc)
      go (Dec i) s h = absurd (chosen (λ (q : Place). q ≡ Spin j → ⊥) (eqb (w.x i) 1) (Mark i) (place_past net i) (λ _ h. cc) (λ _. no_pass i j) h)
      go (Mark i) s h = absurd (cc)
      go (Look i) s h = inl (chosen (λ (q : Place). q ≡ Spin j → (spot ≡ Look j) × (w.x j ≡ 0)) (eqb (w.x i) 0) (Spin i) (place_past net i)
          (λ t h. let e = spin_is i j h in (s ∙ ap Look e, ap w.x (sym e) ∙ eqb-true (w.x i) 0 t)) (λ _ h. absurd (no_pass i j h)) h)
      go (Spin i) s h = inr (chosen (λ (q : Place). q ≡ Spin j → (spot ≡ Spin j) × (w.q j ≡ p + 1)) (eqb (w.q i) (p + 1)) (Spin i) (place_past net i)
          (λ t h. let e = spin_is i j h in (s ∙ ap Spin e, ap w.q (sym e) ∙ eqb-true (w.q i) (p + 1) t)) (λ _ h. absurd (no_pass i j h)) h)
      go (Naming i) s h = absurd (chosen (λ (q : Place). q ≡ Spin j → ⊥) (eqb (w.bit i) 0) (Named i) (cond (eqb (i + 2) net.width) (Named (i + 1)) (Naming (i + 1))) (λ _ h. cc)
          (λ _. chosen (λ (q : Place). q ≡ Spin j → ⊥) (eqb (i + 2) net.width) (Named (i + 1)) (Naming (i + 1)) (λ _ h. cc) (λ _ h. cc)) h)
      go (Named i) s h = absurd (cc)
      go (Holding i) s h = absurd (chosen (λ (q : Place). q ≡ Spin j → ⊥) (eqb (i + 1) net.width) (back net p net.stages) (Clearing i) (λ _. no_back net.stages j) (λ _ h. cc) h)
      go (Clearing i) s h = absurd (no_back net.stages j h)
      go (Inc i) s h = absurd (cc)
      go (Unmark i) s h = absurd (no_back i j h)

  between_after : (q j : ℕ) → q < net.parties → place q ≡ Spin j → q_after p spot w.q j ≡ q + 1 → net.cap j + 1 ≤ over net.parties (λ q. below net q (between_to net.stages (place q)) j)
  between_after q j l e n = let s : Stage net q j = subst (Placed net q) e (placed_after q l) in ⊎_elim
      (λ (i : q ≡ p). ⊎_elim
      (λ (t : (spot ≡ Look j) × (w.x j ≡ 0)). let a = between_stays j s.0 (λ u. cc (sym t.0 ∙ u)) in
      let b : counted net w j ≤ between net w j = over_le net.parties (λ (r : ℕ). below net r (counted_to net.stages (w.place r)) j) (λ (r : ℕ). below net r (between_to net.stages (w.place r)) j)
      (λ r _. below_le net r (counted_to net.stages (w.place r)) (between_to net.stages (w.place r)) j (λ _ z. let c = counted_between net.stages (w.place r) in omega arith)) in
      let c = kept.counters j s.0 in let z = t.1 in omega arith)
      (λ (t : (spot ≡ Spin j) × (w.q j ≡ p + 1)). let a = between_stays j s.0 (λ u. cc (sym t.0 ∙ u)) in
      let b = between_was p j mine (spin_place (w.place p) j t.0) t.1 in omega arith)
      (spin_cases j (sym place_here ∙ subst (λ (r : ℕ). place r ≡ Spin j) i e)))
      (λ (d : q ≢ p). let f : w.place q ≡ Spin j = sym (place_else q d) ∙ e in ⊎_elim
      (λ (a : q_after p spot w.q j ≡ w.q j). let b = between_was q j l f (sym a ∙ n) in let c = between_stays j s.0 (λ u. let g : q_after p spot w.q j ≡ p + 1 = ap (λ (r : Place). q_after p r w.q j) u ∙ put_here w.q j (p + 1) in d (omega arith)) in omega arith)
      (λ (t : ((spot ≡ Mark j) ⊎ (spot ≡ Unmark j)) × (q_after p spot w.q j ≡ p + 1)). let a = t.1 in absurd (omega arith)) (q_cases j)) (same_or q p)
    where
      spin_place : (d : Place) (j : ℕ) → due net p d ≡ Spin j → d ≡ Spin j
      spin_place d j h = ⊎_elim (λ (e : d ≡ Out). absurd (chosen (λ (r : Place). r ≡ Spin j → ⊥) (eqb (net.start p) net.stages) (Naming 0) (Dec (net.start p)) (λ _ z. cc) (λ _ z. cc) (sym (ap (due net p) e) ∙ h)))
          (λ (e : due net p d ≡ d). sym e ∙ h) (split net p d)

  waits_after : (q j : ℕ) → q < net.parties → place q ≡ Spin j → q_after p spot w.q j ≡ q + 1 → net.cap j ≤ between_others net moved q j
  waits_after q j l e n = let a = between_after q j l e n in
      let b = over_but net.parties (λ (r : ℕ). below net r (between_to net.stages (place r)) j) q l in let c = below_one net q (between_to net.stages (place q)) j in omega arith

  -- positions
  due_reach : (i : ℕ) (q : ℕ) (d : Place) → reaches (i + 1) (due net q d) ≡ reaches (i + 1) d
  due_reach i q d = ⊎_elim
      (λ (e : d ≡ Out). subst (λ (r : Place). reaches (i + 1) (due net q r) ≡ reaches (i + 1) r) (sym e)
      (chosen (λ (r : Place). reaches (i + 1) r ≡ 0) (eqb (net.start q) net.stages) (Naming 0) (Dec (net.start q)) (λ _. reach_no i) (λ _. refl)))
      (λ (e : due net q d ≡ d). ap (reaches (i + 1)) e) (split net q d)
    where
      reach_no : (i : ℕ) → reaches (i + 1) (Naming 0) ≡ 0
      reach_no i = grind (arith, nat_tests)

  due_names : (i : ℕ) → i < net.width → over net.parties (λ q. reaches i (due net q (w.place q))) + i ≤ net.width
  due_names zero l = let a = due_inside net valid w base in omega arith
  due_names (suc i) l = let k = kept.names (suc i) l in
      let a : over net.parties (λ q. reaches (suc i) (due net q (w.place q))) ≡ over net.parties (λ q. reaches (suc i) (w.place q)) = over_same net.parties (λ (q : ℕ). reaches (suc i) (due net q (w.place q))) (λ (q : ℕ). reaches (suc i) (w.place q))
      (λ q _. subst (λ (n : ℕ). reaches n (due net q (w.place q)) ≡ reaches n (w.place q)) (let z : i + 1 ≡ suc i = omega arith in z) (due_reach i q (w.place q))) in omega arith

  names_step : (i : ℕ) → i + 1 < net.width → over net.parties (λ q. reaches (i + 1) (place q)) + (i + 1) ≤ net.width
  names_step i l = let a = sums (λ (q : ℕ) (d : Place). reaches (i + 1) d) in let k = kept.names (i + 1) l in let u = due_reach i p (w.place p) in ⊎_elim
      (λ (t : (spot ≡ Naming i) × (value_found w p spot ≢ 0)).
      let n : w.bit i ≢ 0 = subst (λ (d : Place). value_found w p d ≢ 0) t.0 t.1 in let b = kept.bits i l in
      let o = over_some net.parties (λ (q : ℕ). owns i (w.place q)) (omega arith) in
      let r = owner_reach i (w.place (o.0)) o.2 in
      let g = due_names i (omega arith) in
      let s : over net.parties (λ q. reaches (i + 1) (w.place q)) + 2 ≤ over net.parties (λ q. reaches i (due net q (w.place q))) =
      over_lt_two net.parties (λ (q : ℕ). reaches (i + 1) (w.place q)) (λ (q : ℕ). reaches i (due net q (w.place q))) p (o.0) mine (o.1) (not_owner i (o.0) t.0 o.2)
      (λ q _. let v = due_reach i q (w.place q) in let y = reach_less i (due net q (w.place q)) in omega arith)
      (let c : reaches i spot ≡ 1 = ap (reaches i) t.0 ∙ at_least i in let d : reaches (i + 1) spot ≡ 0 = ap (reaches (i + 1)) t.0 ∙ at_none i in omega arith)
      (let c = owner_due (o.0) i (w.place (o.0)) o.2 in let d : reaches i (due net (o.0) (w.place (o.0))) ≡ reaches i (w.place (o.0)) = ap (reaches i) c in let x = r.0 in let y = r.1 in omega arith) in
      let most = reach_most (i + 1) next in omega arith)
      (λ (h : spot ≡ Naming i → value_found w p spot ≡ 0). let b = reach_local net valid p mine i spot (value_found w p spot) h in omega arith)
      (naming_or spot i (value_found w p spot))
    where
      at_least : (i : ℕ) → reaches i (Naming i) ≡ 1
      at_least i = grind (arith, nat_tests)

      at_none : (i : ℕ) → reaches (i + 1) (Naming i) ≡ 0
      at_none i = grind (arith, nat_tests)

      owner_due : (q i : ℕ) (d : Place) → 0 < owns i d → due net q d ≡ d
      owner_due q i d h = ⊎_elim (λ (e : d ≡ Out). let z : owns i d ≡ 0 = ap (owns i) e in absurd (omega arith)) (λ (e : due net q d ≡ d). e) (split net q d)

      not_owner : (i o : ℕ) → spot ≡ Naming i → 0 < owns i (w.place o) → p ≢ o
      not_owner i o s h e = let f = owner_due o i (w.place o) h in
          let g : due net o (w.place o) ≡ Naming i = subst (λ (r : ℕ). due net r (w.place r) ≡ Naming i) e s in let z : owns i (w.place o) ≡ 0 = ap (owns i) (sym f ∙ g) in absurd (omega arith)

  names_after : (i : ℕ) → i < net.width → over net.parties (λ q. reaches i (place q)) + i ≤ net.width
  names_after zero l = let a = inside_le net valid moved base_after in omega arith
  names_after (suc i) l = let z : i + 1 ≡ suc i = omega arith in subst (λ (n : ℕ). over net.parties (λ q. reaches n (place q)) + n ≤ net.width) z (names_step i (omega arith))

  due_owns : (i : ℕ) (d : Place) → owns i (due net p d) ≡ owns i d
  due_owns i d = ⊎_elim
      (λ (e : d ≡ Out). subst (λ (r : Place). owns i (due net p r) ≡ owns i r) (sym e) (chosen (λ (r : Place). owns i r ≡ 0) (eqb (net.start p) net.stages) (Naming 0) (Dec (net.start p)) (λ _. refl) (λ _. refl)))
      (λ (e : due net p d ≡ d). ap (owns i) e) (split net p d)

  due_holds : (i : ℕ) (d : Place) → holds i (due net p d) ≡ holds i d
  due_holds i d = ⊎_elim
      (λ (e : d ≡ Out). subst (λ (r : Place). holds i (due net p r) ≡ holds i r) (sym e) (chosen (λ (r : Place). holds i r ≡ 0) (eqb (net.start p) net.stages) (Naming 0) (Dec (net.start p)) (λ _. refl) (λ _. refl)))
      (λ (e : due net p d ≡ d). ap (holds i) e) (split net p d)

  bits_after : (i : ℕ) → i + 1 < net.width → over net.parties (λ q. owns i (place q)) ≡ bit_after spot w.bit i
  bits_after i l = let a = sums (λ (q : ℕ) (d : Place). owns i d) in let b = kept.bits i l in
      let c = over_has net.parties (λ (q : ℕ). owns i (w.place q)) p mine in let u = due_owns i (w.place p) in
      let d = owns_local net valid p mine w spot i l (kept.bit_small i l) (omega arith) in omega arith

  -- the card of a name that is taken is at home until its owner takes it
  pub named_home : (s : ℕ) → s < net.width → spot ≡ Named s → w.card s ≡ 0
  named_home s l e = let a = owns_one net w kept s l in let b = kept.cards s l in
      let u = due_owns s (w.place p) in let v = due_holds s (w.place p) in
      let x : owns s spot ≡ 1 = ap (owns s) e ∙ yes_is (eqb s s) 1 0 (eq-eqb s s refl) in
      let y : holds s spot ≡ 0 = ap (holds s) e in
      let c = over_lt net.parties (λ (q : ℕ). holds s (w.place q)) (λ (q : ℕ). owns s (w.place q)) p mine (λ q _. holds_owns s (w.place q)) (omega arith) in omega arith

  pub holding_out : (s : ℕ) → s < net.width → spot ≡ Holding s → w.card s ≡ 1
  holding_out s l e = let b = kept.cards s l in let v = due_holds s (w.place p) in let m = kept.card_small s l in
      let y : holds s spot ≡ 1 = ap (holds s) e ∙ yes_is (eqb s s) 1 0 (eq-eqb s s refl) in
      let c = over_has net.parties (λ (q : ℕ). holds s (w.place q)) p mine in omega arith

  cards_after : (s : ℕ) → s < net.width → over net.parties (λ q. holds s (place q)) ≡ card_after spot w.card s
  cards_after s l = let a = sums (λ (q : ℕ) (d : Place). holds s d) in let b = kept.cards s l in
      let c = over_has net.parties (λ (q : ℕ). holds s (w.place q)) p mine in let u = due_holds s (w.place p) in
      let d = holds_local net valid p mine w spot s (named_home s l) (omega arith) (kept.card_small s l) in omega arith

  pub kept_step : KeptTo net moved
  kept_step = record {
    placed = placed_after;
    counters = count_after;
    within = within_le net valid moved base_after;
    inside = inside_le net valid moved base_after;
    watched = full_after;
    waits = waits_after;
    names = names_after;
    bits = bits_after;
    bit_small = λ i l. bit_most spot w.bit i (kept.bit_small i l);
    cards = cards_after;
    card_small = λ s l. card_most spot w.card s (kept.card_small s l);
  }
