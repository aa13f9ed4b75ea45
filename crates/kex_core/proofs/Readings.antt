-- The sets of specs/ are those that the thresholds give, wherever a place lies on its party's path.
use Rattle.std.proofs.Common.{◌≡◌, ℕ, ◌+◌, ◌<◌, Bool, true, false, cond, eqb, leb, ltb, ◌&&◌, ◌||◌, not, sym, refl, ap, ◌∙◌, subst, arith}
use Rattle.std.proofs.lemmas.Bool.Decides.{nat_tests}
use Rattle.std.proofs.Math.Bool.{and-true, or-false}
use Rattle.kex_core.specs.declared.place.Place.{Place}
use Rattle.kex_core.specs.declared.place.Place.TheVariants.{Out, Dec, Mark, Look, Spin, Naming, Named, Holding, Clearing, Inc, Unmark}
use Rattle.kex_core.specs.Nets.{Plan, over, on_path}
use Rattle.kex_core.specs.Worlds.{Machine}
use Rattle.kex_core.specs.Sets.{position_of, name_of, held_at, has, is_inside, is_counted, is_within, is_between, is_passed, size, others, positions, owners, holders, insiders}
use Rattle.kex_core.specs.Laws.{Stage, Placed, Kept}
use Rattle.kex_core.proofs.Thresholds.{counted_to, within_to, between_to, passed_to, below, reaches, owns, holds, counted, within, through, inside, between_others, KeptTo}
use Rattle.kex_core.proofs.Sums.{over_same}

-- at a place of stage i, the tests for stage j
at_dec : (i j : ℕ) (o : Bool) → o ≡ true → (((false || false) || (ltb j i && o)) || false) ≡ ltb j i
at_dec i j o h = grind (arith, nat_tests)

at_wait : (i j : ℕ) (o : Bool) → o ≡ true → (((eqb i j || false) || (ltb j i && o)) || false) ≡ ltb j (i + 1)
at_wait i j o h = grind (arith, nat_tests)

at_inc : (i j : ℕ) (o : Bool) → o ≡ true → (((false || eqb i j) || (ltb j i && o)) || false) ≡ ltb j (i + 1)
at_inc i j o h = grind (arith, nat_tests)

at_name : (j s : ℕ) → j < s → true ≡ ltb j s
at_name j s h = grind (arith, nat_tests)

at_out : (j : ℕ) → false ≡ ltb j 0
at_out j = grind (arith, nat_tests)

next_or : (i j : ℕ) → (eqb i j || ltb j i) ≡ ltb j (i + 1)
next_or i j = grind (arith, nat_tests)

or_next : (i j : ℕ) → (ltb j i || eqb i j) ≡ ltb j (i + 1)
or_next i j = grind (arith, nat_tests)

more : (i j : ℕ) → j < i → true ≡ ltb j (i + 1)
more i j h = grind (arith, nat_tests)

not_at : (i j : ℕ) → (ltb j (i + 1) && not (eqb i j)) ≡ ltb j i
not_at i j = grind (arith, nat_tests)

module _ (net : Plan) (p j : ℕ) (low : j < net.stages) where
  pub counted_is : (d : Place) → Placed net p d → is_counted net p j d ≡ ltb j (counted_to net.stages d)
  counted_is Out h = at_out j
  counted_is (Dec i) h = at_dec i j (on_path net p i) h.1
  counted_is (Mark i) h = at_wait i j (on_path net p i) h.1
  counted_is (Look i) h = at_wait i j (on_path net p i) h.1
  counted_is (Spin i) h = at_wait i j (on_path net p i) h.1
  counted_is (Naming i) h = at_name j net.stages low
  counted_is (Named s) h = at_name j net.stages low
  counted_is (Holding s) h = at_name j net.stages low
  counted_is (Clearing s) h = at_name j net.stages low
  counted_is (Inc i) h = at_inc i j (on_path net p i) h.1
  counted_is (Unmark i) h = at_dec i j (on_path net p i) h.1

  pub between_is : (d : Place) → Placed net p d → is_between net p j d ≡ ltb j (between_to net.stages d)
  between_is Out h = or-false (is_counted net p j Out) ∙ counted_is Out h
  between_is (Dec i) h = or-false (is_counted net p j (Dec i)) ∙ counted_is (Dec i) h
  between_is (Mark i) h = or-false (is_counted net p j (Mark i)) ∙ counted_is (Mark i) h
  between_is (Look i) h = or-false (is_counted net p j (Look i)) ∙ counted_is (Look i) h
  between_is (Spin i) h = or-false (is_counted net p j (Spin i)) ∙ counted_is (Spin i) h
  between_is (Naming i) h = or-false (is_counted net p j (Naming i)) ∙ counted_is (Naming i) h
  between_is (Named s) h = or-false (is_counted net p j (Named s)) ∙ counted_is (Named s) h
  between_is (Holding s) h = or-false (is_counted net p j (Holding s)) ∙ counted_is (Holding s) h
  between_is (Clearing s) h = or-false (is_counted net p j (Clearing s)) ∙ counted_is (Clearing s) h
  between_is (Inc i) h = or-false (is_counted net p j (Inc i)) ∙ counted_is (Inc i) h
  between_is (Unmark i) h = ap (λ (b : Bool). b || eqb i j) (counted_is (Unmark i) h) ∙ or_next i j

  pub within_is : (d : Place) → Placed net p d → is_within net p j d ≡ ltb j (within_to net.stages d)
  within_is Out h = between_is Out h
  within_is (Dec i) h = or-false (eqb i j || is_counted net p j (Dec i)) ∙ (ap (λ (b : Bool). eqb i j || b) (counted_is (Dec i) h) ∙ next_or i j)
  within_is (Mark i) h = between_is (Mark i) h
  within_is (Look i) h = between_is (Look i) h
  within_is (Spin i) h = between_is (Spin i) h
  within_is (Naming i) h = between_is (Naming i) h ∙ (sym (at_name j net.stages low) ∙ more net.stages j low)
  within_is (Named s) h = between_is (Named s) h ∙ (sym (at_name j net.stages low) ∙ more net.stages j low)
  within_is (Holding s) h = between_is (Holding s) h ∙ (sym (at_name j net.stages low) ∙ more net.stages j low)
  within_is (Clearing s) h = between_is (Clearing s) h ∙ (sym (at_name j net.stages low) ∙ more net.stages j low)
  within_is (Inc i) h = between_is (Inc i) h
  within_is (Unmark i) h = between_is (Unmark i) h

  pub passed_is : (d : Place) → Placed net p d → is_passed net p j d ≡ ltb j (passed_to net.stages d)
  passed_is Out h = and-true (is_counted net p j Out) ∙ counted_is Out h
  passed_is (Dec i) h = and-true (is_counted net p j (Dec i)) ∙ counted_is (Dec i) h
  passed_is (Mark i) h = ap (λ (b : Bool). b && not (eqb i j)) (counted_is (Mark i) h) ∙ not_at i j
  passed_is (Look i) h = ap (λ (b : Bool). b && not (eqb i j)) (counted_is (Look i) h) ∙ not_at i j
  passed_is (Spin i) h = ap (λ (b : Bool). b && not (eqb i j)) (counted_is (Spin i) h) ∙ not_at i j
  passed_is (Naming i) h = and-true (is_counted net p j (Naming i)) ∙ counted_is (Naming i) h
  passed_is (Named s) h = and-true (is_counted net p j (Named s)) ∙ counted_is (Named s) h
  passed_is (Holding s) h = and-true (is_counted net p j (Holding s)) ∙ counted_is (Holding s) h
  passed_is (Clearing s) h = and-true (is_counted net p j (Clearing s)) ∙ counted_is (Clearing s) h
  passed_is (Inc i) h = and-true (is_counted net p j (Inc i)) ∙ counted_is (Inc i) h
  passed_is (Unmark i) h = and-true (is_counted net p j (Unmark i)) ∙ counted_is (Unmark i) h

abbrev one_if : Bool → ℕ
one_if b = cond b 1 0

abbrev one_unless : Bool → ℕ
one_unless b = cond b 0 1

from_is : (i s : ℕ) → one_if (leb i s) ≡ one_unless (ltb s i)
from_is i s = grind (arith, nat_tests)

pub reaches_is : (i : ℕ) (d : Place) → cond (has (leb i) (position_of d)) 1 0 ≡ reaches i d
reaches_is i Out = refl
reaches_is i (Dec j) = refl
reaches_is i (Mark j) = refl
reaches_is i (Look j) = refl
reaches_is i (Spin j) = refl
reaches_is i (Naming s) = from_is i s
reaches_is i (Named s) = from_is i s
reaches_is i (Holding s) = from_is i s
reaches_is i (Clearing s) = from_is i s
reaches_is i (Inc j) = refl
reaches_is i (Unmark j) = refl

at_least_none : (s : ℕ) → one_if true ≡ one_unless (ltb s 0)
at_least_none s = grind (arith, nat_tests)

pub inside_is : (d : Place) → cond (is_inside d) 1 0 ≡ reaches 0 d
inside_is Out = refl
inside_is (Dec j) = refl
inside_is (Mark j) = refl
inside_is (Look j) = refl
inside_is (Spin j) = refl
inside_is (Naming s) = at_least_none s
inside_is (Named s) = at_least_none s
inside_is (Holding s) = at_least_none s
inside_is (Clearing s) = at_least_none s
inside_is (Inc j) = refl
inside_is (Unmark j) = refl

pub owns_is : (i : ℕ) (d : Place) → cond (has (λ s. eqb s i) (name_of d)) 1 0 ≡ owns i d
owns_is i Out = refl
owns_is i (Dec j) = refl
owns_is i (Mark j) = refl
owns_is i (Look j) = refl
owns_is i (Spin j) = refl
owns_is i (Naming s) = refl
owns_is i (Named s) = refl
owns_is i (Holding s) = refl
owns_is i (Clearing s) = refl
owns_is i (Inc j) = refl
owns_is i (Unmark j) = refl

pub holds_is : (i : ℕ) (d : Place) → cond (has (λ s. eqb s i) (held_at d)) 1 0 ≡ holds i d
holds_is i Out = refl
holds_is i (Dec j) = refl
holds_is i (Mark j) = refl
holds_is i (Look j) = refl
holds_is i (Spin j) = refl
holds_is i (Naming s) = refl
holds_is i (Named s) = refl
holds_is i (Holding s) = refl
holds_is i (Clearing s) = refl
holds_is i (Inc j) = refl
holds_is i (Unmark j) = refl

other_is : (a b : Bool) → one_if (not a && b) ≡ cond a 0 (one_if b)
other_is true b = refl
other_is false b = refl

module _ (net : Plan) (w : Machine) (placed : (p : ℕ) → p < net.parties → Placed net p (w.place p)) where
  -- a set and its threshold have the same parties
  pub size_is : (set : Plan → ℕ → ℕ → Place → Bool) (to : ℕ → Place → ℕ) (j : ℕ) → ((p : ℕ) (d : Place) → Placed net p d → set net p j d ≡ ltb j (to net.stages d))
      → size set net w j ≡ over net.parties (λ p. below net p (to net.stages (w.place p)) j)
  size_is set to j is = over_same net.parties (λ (p : ℕ). cond (on_path net p j && set net p j (w.place p)) 1 0) (λ (p : ℕ). below net p (to net.stages (w.place p)) j)
      (λ p l. ap (λ (b : Bool). cond (on_path net p j && b) 1 0) (is p (w.place p) (placed p l)))

  pub others_is : (p j : ℕ) → j < net.stages → others is_between net w p j ≡ between_others net w p j
  others_is p j low = over_same net.parties (λ (q : ℕ). cond (not (eqb q p) && (on_path net q j && is_between net q j (w.place q))) 1 0) (λ (q : ℕ). cond (eqb q p) 0 (below net q (between_to net.stages (w.place q)) j))
      (λ q l. other_is (eqb q p) (on_path net q j && is_between net q j (w.place q)) ∙ ap (λ (b : Bool). cond (eqb q p) 0 (cond (on_path net q j && b) 1 0)) (between_is net q j low (w.place q) (placed q l)))

  pub count_is : (j : ℕ) → j < net.stages → size is_counted net w j ≡ counted net w j
  count_is j l = size_is is_counted counted_to j (λ p d h. counted_is net p j l d h)

  pub size_within : (j : ℕ) → j < net.stages → size is_within net w j ≡ within net w j
  size_within j l = size_is is_within within_to j (λ p d h. within_is net p j l d h)

  pub size_passed : (j : ℕ) → j < net.stages → size is_passed net w j ≡ through net w j
  size_passed j l = size_is is_passed passed_to j (λ p d h. passed_is net p j l d h)

module _ (net : Plan) (w : Machine) where
  pub insiders_is : insiders net w ≡ inside net w
  insiders_is = over_same net.parties (λ (p : ℕ). cond (is_inside (w.place p)) 1 0) (λ (p : ℕ). reaches 0 (w.place p)) (λ p _. inside_is (w.place p))

  pub positions_is : (i : ℕ) → positions (leb i) net w ≡ over net.parties (λ p. reaches i (w.place p))
  positions_is i = over_same net.parties (λ (p : ℕ). cond (has (leb i) (position_of (w.place p))) 1 0) (λ (p : ℕ). reaches i (w.place p)) (λ p _. reaches_is i (w.place p))

  pub owners_is : (i : ℕ) → owners net w i ≡ over net.parties (λ p. owns i (w.place p))
  owners_is i = over_same net.parties (λ (p : ℕ). cond (has (λ s. eqb s i) (name_of (w.place p))) 1 0) (λ (p : ℕ). owns i (w.place p)) (λ p _. owns_is i (w.place p))

  pub holders_is : (s : ℕ) → holders net w s ≡ over net.parties (λ p. holds s (w.place p))
  holders_is s = over_same net.parties (λ (p : ℕ). cond (has (λ t. eqb t s) (held_at (w.place p))) 1 0) (λ (p : ℕ). holds s (w.place p)) (λ p _. holds_is s (w.place p))

  -- the stage at which a party spins is one of the net's
  spin_low : ((p : ℕ) → p < net.parties → Placed net p (w.place p)) → (p j : ℕ) → p < net.parties → w.place p ≡ Spin j → j < net.stages
  spin_low placed p j l e = let s : Stage net p j = subst (Placed net p) e (placed p l) in s.0

  -- the invariant by sets and by thresholds
  pub kept_to : Kept net w → KeptTo net w
  kept_to k = record {
    placed = k.placed;
    counters = λ j l. ap (λ (n : ℕ). w.x j + n) (sym (count_is net w k.placed j l)) ∙ k.counters j l;
    within = λ j l. let a = size_within net w k.placed j l in let b = k.within j l in omega arith;
    inside = let a = insiders_is in let b = k.inside in omega arith;
    watched = k.watched;
    waits = λ p j l e n. let low = spin_low k.placed p j l e in let a = others_is net w k.placed p j low in let b = k.waits p j l e n in omega arith;
    names = λ i l. let a = positions_is i in let b = k.names i l in omega arith;
    bits = λ i l. sym (owners_is i) ∙ k.bits i l;
    bit_small = k.bit_small;
    cards = λ s l. sym (holders_is s) ∙ k.cards s l;
    card_small = k.card_small;
  }

  pub kept_from : KeptTo net w → Kept net w
  kept_from k = record {
    placed = k.placed;
    counters = λ j l. ap (λ (n : ℕ). w.x j + n) (count_is net w k.placed j l) ∙ k.counters j l;
    within = λ j l. let a = size_within net w k.placed j l in let b = k.within j l in omega arith;
    inside = let a = insiders_is in let b = k.inside in omega arith;
    watched = k.watched;
    waits = λ p j l e n. let low = spin_low k.placed p j l e in let a = others_is net w k.placed p j low in let b = k.waits p j l e n in omega arith;
    names = λ i l. let a = positions_is i in let b = k.names i l in omega arith;
    bits = λ i l. owners_is i ∙ k.bits i l;
    bit_small = k.bit_small;
    cards = λ s l. holders_is s ∙ k.cards s l;
    card_small = k.card_small;
  }
