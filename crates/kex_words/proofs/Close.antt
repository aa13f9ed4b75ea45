-- What the rule says once one seat has all numbers: all parties are Out, and all cards are at home.
use Rattle.std.proofs.Common.{◌≡◌, ◌≢◌, ℕ, ◌+◌, ◌-◌, ◌%◌, ◌^◌, ◌<◌, ◌≤◌, cond, eqb, List, [], ◌∷◌, ◌++◌, length, sym, ap, ◌∙◌, subst, ⊎_elim, arith, Option, Some, length-append}
use mathlib.Core.Logic.{dite}
use mathlib.Core.Option.{some, some-injective}
use native.Mathlib.Decide.{ℕ_discrete, dec_le}
use lib.ListN.{get_elem?}
use Rattle.atomic_table.specs.Seated.{TableId}
use Rattle.atomic_table.specs.Table.{State, Final, Seen}
use Rattle.kex_core.specs.declared.place.Place.{Place}
use Rattle.kex_core.specs.declared.place.Place.TheVariants.{Out}
use Rattle.kex_core.specs.Worlds.{Machine}
use Rattle.kex_core.specs.Sets.{has, held_at}
use Rattle.kex_core.specs.Shapes.{Sheet}
use Rattle.kex_core.proofs.Sums.{same_or, over_same, over_zero}
use Rattle.kex_words.specs.declared.card.Card.{Card}
use Rattle.pass_roles.specs.declared.role.Role.{Role}
use Rattle.pass_roles.specs.declared.role.Role.TheVariants.{Maker, Party, Spent}
use Rattle.kex_words.specs.declared.view.View.{View}
use Rattle.kex_words.specs.Passes.{TableNet, TakenIn, IsSetUp, times, counted_card}
use Rattle.pass_roles.specs.Roles.{number_of, total, weigh}
use Rattle.kex_words.specs.Rule.{took_of, weight, Standing, Fits, HasNumber, IsHome, IsAway, IsReadOff}
use Rattle.kex_words.specs.Steps.{Self, taken_in, IsTakenIn}
use Rattle.pass_roles.proofs.Members.{total_two, total_alone}
use Rattle.kex_words.proofs.Times.{times_append}
use Rattle.kex_words.proofs.Keeps.{knows}

-- a view of no weight took nothing
took_none : (sheet : Sheet) (world : Machine) (made maker_seat : ℕ) (owner : ℕ → ℕ) (views : List View) (j k n : ℕ) (d : View) (role : Role) → Fits sheet world made maker_seat owner views j d role
    → weigh n (length d.joined) role ≡ 0 → took_of k d ≡ 0
took_none sheet world made maker_seat owner views j k n d (Maker m) f light = ap (times k) f.got
took_none sheet world made maker_seat owner views j k n d (Party p) f light = absurd (omega arith)
took_none sheet world made maker_seat owner views j k n d Spent f light = ap (times k) f.got

module _ (net : Sheet) (s : State (Option Card) View) (r : IsReadOff net s) (id : ℕ) (v : View) (is : v.role ≡ Party (number_of v.role)) (rests : v.place ≡ Out)
    (whole : 1 + length v.joined ≡ net.parties) (at : get_elem? s.views id ≡ some v) where
  abbrev p : ℕ
  p = number_of v.role

  known : Standing net r.world r.made r.maker_seat r.owner s.views id p v
  known = knows net s r id p v at is

  heavy : weight net.parties v ≡ net.parties
  heavy = let a : weight net.parties v ≡ 1 + length v.joined = ap (weigh net.parties (length v.joined)) is in omega arith

  -- all other views have no number
  light : (j : ℕ) (d : View) → j ≢ id → get_elem? s.views j ≡ some d → weight net.parties d ≡ 0
  light j d other e = let t = total_two (weight net.parties) s.views j id d v other e at in let w = r.weights in let h = heavy in omega arith

  all_out : (q : ℕ) → r.world.place q ≡ Out
  all_out q = dite (dec_le r.made q) (λ far. r.undealt q far) (λ near. let k = r.dealt q (omega arith) in
      let here : r.owner q ≡ id = dite (ℕ_discrete (r.owner q) id) (λ e. e) (λ other. let a = light (r.owner q) k.0 other k.1 in
      let b : weight net.parties k.0 ≡ 1 + length k.0.joined = ap (weigh net.parties (length k.0.joined)) k.2.0 in absurd (omega arith)) in
      let it : k.0 ≡ v = some-injective k.0 v (sym k.1 ∙ (ap (get_elem? s.views) here ∙ at)) in
      let h : HasNumber q v = subst (HasNumber q) it k.2 in
      ⊎_elim (λ (e : q ≡ p). ap r.world.place e ∙ (known.place_is ∙ rests)) (λ (o : q ≢ p). (known.numbers q h.1).2 o) (same_or q p))

  -- so no card is out
  at_home : (k : ℕ) → k < net.width → r.world.card k ≡ 0
  at_home k l = sym (r.kept.cards k l) ∙ (over_same net.parties (λ (q : ℕ). cond (has (λ t. eqb t k) (held_at (r.world.place q))) 1 0) (λ _. 0)
      (λ q _. ap (λ (x : Place). cond (has (λ t. eqb t k) (held_at x)) 1 0) (all_out q)) ∙ over_zero net.parties)

  uses_are : (k : ℕ) → total (took_of k) s.views ≡ times k v.got
  uses_are k = total_alone (took_of k) s.views id v at (λ j d other e. took_none net r.world r.made r.maker_seat r.owner s.views j k net.parties d d.role (r.each j d e) (light j d other e))

  home_card : (k : ℕ) → k < net.width → get_elem? s.homes k ≡ some (some (Some (counted_card v.got k)))
  home_card k l = ⊎_elim
      (λ (h : IsHome r.world.card s.homes s.views k). h.1.1 ∙ (λ i. some (some (Some (record { number = h.1.2 i; uses = (h.1.3 ∙ ap (λ (x : ℕ). x % 2 ^ 64) (uses_are k)) i })))))
      (λ (a : IsAway r.world.card s.homes s.views k). let z = a.0 in let y = at_home k l in absurd (omega arith)) (r.cards k l)

  -- each number was taken in once
  once : (q : ℕ) → times q (v.joined ++ p ∷ []) ≤ 1
  once q = let a = known.once q in let b = times_append q v.joined (p ∷ []) in omega arith

  all_made : net.parties ≤ r.made
  all_made = let m = r.maker in dite (ℕ_discrete r.maker_seat id)
      (λ (e : r.maker_seat ≡ id). let it : m.0 ≡ v = some-injective m.0 v (sym m.1 ∙ (ap (get_elem? s.views) e ∙ at)) in
      let role_is : Maker r.made ≡ Party p = sym m.2 ∙ (ap (λ (x : View). x.role) it ∙ is) in absurd (cc))
      (λ (other : r.maker_seat ≢ id). let a = light r.maker_seat m.0 other m.1 in let b : weight net.parties m.0 ≡ net.parties - r.made = ap (weigh net.parties (length m.0.joined)) m.2 in omega arith)

  there : (q : ℕ) → q < net.parties → 1 ≤ times q (v.joined ++ p ∷ [])
  there q l = let many = all_made in let k = r.dealt q (omega arith) in
      let here : r.owner q ≡ id = dite (ℕ_discrete (r.owner q) id) (λ e. e) (λ other. let a = light (r.owner q) k.0 other k.1 in
      let b : weight net.parties k.0 ≡ 1 + length k.0.joined = ap (weigh net.parties (length k.0.joined)) k.2.0 in absurd (omega arith)) in
      let it : k.0 ≡ v = some-injective k.0 v (sym k.1 ∙ (ap (get_elem? s.views) here ∙ at)) in
      let h : HasNumber q v = subst (HasNumber q) it k.2 in let c = h.1 in
      let b = times_append q v.joined (p ∷ []) in omega arith

  none_above : (q : ℕ) → 0 < times q (v.joined ++ p ∷ []) → q < net.parties
  none_above q there_is = let b = times_append q v.joined (p ∷ []) in let n = known.numbers q (omega arith) in let low = n.0 in let few = r.few in omega arith

  got_low : (k : ℕ) → net.width ≤ k → times k v.got ≡ 0
  got_low k far = known.got k far

-- what is known of a table that is closed with all its passes
pub record Whole (net : Sheet) (g : TakenIn) (xs : List (Option Card)) : Type 0 where
  pub cards : (k : ℕ) → k < net.width → get_elem? xs k ≡ some (Some (counted_card g.got k))
  pub numbers : (q : ℕ) → q < net.parties → times q g.numbers ≡ 1
  pub below : (q : ℕ) → 0 < times q g.numbers → q < net.parties
  pub got : (k : ℕ) → net.width ≤ k → times k g.got ≡ 0

wholes : (net : Sheet) (id : ℕ) (seat_id : TableId) (m : Self) (ws : List ℕ) (xs : List (Option Card)) → IsTakenIn m → 1 + length m.0.joined ≡ net.parties → Final (Seen (IsReadOff net) id m.0) ws xs → Whole net (taken_in seat_id m.0) xs
wholes net id seat_id m ws xs t whole final = let s = final.0 in record {
  cards = λ k l. final.4 k (Some (counted_card m.0.got k)) (home_card net s final.1.0 id m.0 t.role_is t.rests whole final.1.1 k l);
  numbers = λ q l. let a = once net s final.1.0 id m.0 t.role_is t.rests whole final.1.1 q in let b = there net s final.1.0 id m.0 t.role_is t.rests whole final.1.1 q l in omega arith;
  below = none_above net s final.1.0 id m.0 t.role_is t.rests whole final.1.1;
  got = got_low net s final.1.0 id m.0 t.role_is t.rests whole final.1.1;
}

-- the same of a table that was told its net
pub wholes_at : (id : TableId) (told net : Sheet) (self : TableNet) (seat : ℕ) (seat_id : TableId) (g : TakenIn) (m : Self) (ws : List ℕ) (xs : List (Option Card)) → IsSetUp id told net → record { id = id; net = net } ≡ self
    → taken_in seat_id m.0 ≡ g → IsTakenIn m → length g.numbers ≡ self.net.parties → Final (Seen (IsReadOff told) seat m.0) ws xs → Whole self.net g xs
wholes_at id told net self seat seat_id g m ws xs up self_is g_is t whole final =
    let n : 1 + length m.0.joined ≡ net.parties = (let a = length-append m.0.joined (number_of m.0.role ∷ []) in let b : length (m.0.joined ++ number_of m.0.role ∷ []) ≡ length g.numbers = ap (λ (x : TakenIn). length x.numbers) g_is in
    let c : net.parties ≡ self.net.parties = ap (λ (x : TableNet). x.net.parties) self_is in omega arith) in
    subst (λ (x : TableNet × TakenIn). Whole x.0.net x.1 xs) (λ i. (self_is i, g_is i)) (wholes net seat seat_id m ws xs t n (subst (λ (x : Sheet). Final (Seen (IsReadOff x) seat m.0) ws xs) up.told_is final))
