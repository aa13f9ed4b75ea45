-- Each access keeps the rule: the words and views after it, read off, are the world after the one move that was due.
use Rattle.std.proofs.Common.{◌≡◌, ◌≢◌, ◌⊎◌, ℕ, ◌+◌, ◌-◌, ◌*◌, ◌%◌, ◌^◌, ◌<◌, ◌≤◌, List, length, get_or, set, sym, refl, ap, ◌∙◌, subst, ⊎_elim, inl, inr, arith, Option}
use mathlib.Core.Logic.{dite}
use mathlib.Core.Option.{some, some-injective}
use native.Mathlib.Decide.{ℕ_discrete}
use lib.ListN.{get_elem?}
use Rattle.atomic_table.specs.Table.{State}
use Rattle.atomic_table.proofs.Lists.{set_else}
use Rattle.kex_core.specs.declared.place.Place.{Place}
use Rattle.kex_core.specs.declared.place.Place.TheVariants.{Out, Holding}
use Rattle.kex_core.specs.Nets.{Plan}
use Rattle.kex_core.specs.Worlds.{Machine, due, value_found, after, x_after, q_after, bit_after, card_after, machine_after_access}
use Rattle.kex_core.specs.Laws.{Placed, Kept}
use Rattle.kex_core.specs.Costs.{cost, is_spin, kept_at}
use Rattle.kex_core.specs.Shapes.{Sheet, plan}
use Rattle.kex_core.proofs.Sums.{put_here, put_else}
use Rattle.kex_core.proofs.Costs.{cost_bound}
use Rattle.kex_core.proofs.Exports.{kept_accessed, firsts_step}
use Rattle.kex_words.specs.declared.card.Card.{Card}
use Rattle.pass_roles.specs.declared.role.Role.{Role}
use Rattle.pass_roles.specs.declared.role.Role.TheVariants.{Maker, Party, Spent}
use Rattle.kex_words.specs.declared.view.View.{View}
use Rattle.kex_words.specs.Passes.{times, got_after, next_pass}
use Rattle.pass_roles.specs.Roles.{total, number_of}
use Rattle.kex_words.specs.Rule.{took_of, weight, Standing, Fits, HasNumber, Homes, IsHome, IsAway, IsReadOff}
use Rattle.kex_words.specs.Steps.{standing, next_view, Told}
use Rattle.pass_roles.proofs.Members.{total_set, each_set, set_at}
use Rattle.kex_words.proofs.Times.{own_number}
use Rattle.kex_words.proofs.Places.{kept_at_le, never_out}

abbrev St : Type 0
St = State (Option Card) View

module _ (sheet : Sheet) where
  pub knows : (s : St) (r : IsReadOff sheet s) (id p : ℕ) (v : View) → get_elem? s.views id ≡ some v → v.role ≡ Party p → Standing sheet r.world r.made r.maker_seat r.owner s.views id p v
  knows s r id p v at is = subst (λ (x : Role). Fits sheet r.world r.made r.maker_seat r.owner s.views id v x) is (r.each id v at)

-- the view of a number's owner stays one that has it
pub dealt_set : (made : ℕ) (owner : ℕ → ℕ) (views : List View) (id : ℕ) (v w : View) → get_elem? views id ≡ some v → ((q : ℕ) → HasNumber q v → HasNumber q w)
    → ((q : ℕ) → q < made → (d : View) × (get_elem? views (owner q) ≡ some d) × HasNumber q d)
    → (q : ℕ) → q < made → (d : View) × (get_elem? (set views id w) (owner q) ≡ some d) × HasNumber q d
dealt_set made owner views id v w at same dealt q l = let k = dealt q l in dite (ℕ_discrete (owner q) id)
    (λ e. let is : k.0 ≡ v = some-injective k.0 v (sym k.1 ∙ (ap (get_elem? views) e ∙ at)) in (w, ap (get_elem? (set views id w)) e ∙ set_at views id v w at, same q (subst (HasNumber q) is k.2)))
    (λ other. (k.0, set_else views id (owner q) w other ∙ k.1, k.2))

-- a party has its number
pub own_owner : (sheet : Sheet) (world : Machine) (made maker_seat : ℕ) (owner : ℕ → ℕ) (views : List View) (seat p : ℕ) (v : View) → Standing sheet world made maker_seat owner views seat p v → (p < made) × (owner p ≡ seat)
own_owner sheet world made maker_seat owner views seat p v f = let h = f.numbers p (own_number p v.joined) in (h.0, h.1)

-- the views of other seats, where one party's place has changed
pub others_stay : (sheet : Sheet) (world world' : Machine) (made maker_seat : ℕ) (owner : ℕ → ℕ) (views views' : List View) (id p j : ℕ) (d : View) (role : Role)
    → owner p ≡ id → j ≢ id → ((q : ℕ) → q ≢ p → world'.place q ≡ world.place q)
    → ((q : ℕ) → Standing sheet world made maker_seat owner views j q d → (k : ℕ) → d.place ≡ Holding k → total (took_of k) views' ≡ total (took_of k) views)
    → Fits sheet world made maker_seat owner views j d role → Fits sheet world' made maker_seat owner views' j d role
others_stay sheet world world' made maker_seat owner views views' id p j d (Maker m) his other same as_much f = record { net_is = f.net_is; made_is = f.made_is; seat_is = f.seat_is; got = f.got }
others_stay sheet world world' made maker_seat owner views views' id p j d (Party q) his other same as_much f =
    let apart : (x : ℕ) → owner x ≡ j → x ≢ p = λ x o e. other (sym o ∙ (ap owner e ∙ his)) in record {
      net_is = f.net_is;
      place_is = same q (apart q (own_owner sheet world made maker_seat owner views j q d f).1) ∙ f.place_is;
      numbers = λ x h. let n = f.numbers x h in (n.0, n.1, λ e. same x (apart x n.1) ∙ n.2 e);
      once = f.once;
      got = f.got;
      uses = λ k e. f.uses k e ∙ ap (λ (z : ℕ). z % 2 ^ 64) (sym (as_much q f k e));
      firsts = f.firsts;
    }
others_stay sheet world world' made maker_seat owner views views' id p j d Spent his other same as_much f = record { got = f.got }

module _ (s : St) (id : ℕ) (v : View) (r : IsReadOff v.net s) (at : get_elem? s.views id ≡ some v) (is : v.role ≡ Party (number_of v.role)) (d : Place) (is_due : due (plan v.net) (number_of v.role) v.place ≡ d) where
  abbrev p : ℕ
  p = number_of v.role

  abbrev net : Plan
  net = plan v.net

  pub known : Standing v.net r.world r.made r.maker_seat r.owner s.views id p v
  known = knows v.net s r id p v at is

  pub mine : p < v.net.parties
  mine = let o = (own_owner v.net r.world r.made r.maker_seat r.owner s.views id p v known).0 in let f = r.few in omega arith

  -- the world's due place
  pub there : due net p (r.world.place p) ≡ d
  there = ap (due net p) known.place_is ∙ is_due

  abbrev pub world' : Machine
  world' = machine_after_access net r.world p d

  pub kept' : Kept net world'
  kept' = kept_accessed net r.is_net.valid r.world r.kept p mine d there

  module _ (n : ℕ) (found_is : n ≡ value_found r.world p d) where
    -- the new place
    pub place_is' : world'.place p ≡ (next_pass (standing v) n).place
    place_is' = put_here r.world.place p (after net p d (value_found r.world p d)) ∙ (λ i. after net p (sym is_due i) (sym found_is i))

    pub placed' : Placed net p (next_pass (standing v) n).place
    placed' = subst (Placed net p) place_is' (kept'.placed p mine)

    pub firsts' : (next_pass (standing v) n).firsts ≤ cost net p (next_pass (standing v) n).place
    firsts' = ⊎_elim
        (λ (o : after net p (due net p v.place) n ≡ Out). let z : (next_pass (standing v) n).firsts ≡ 0 = ap (λ (q : Place). kept_at q (v.firsts + 1 - is_spin (due net p v.place))) o in omega arith)
        (λ (b : v.firsts + 1 ≤ cost net p (after net p (due net p v.place) n) + is_spin (due net p v.place)). let k = kept_at_le (after net p (due net p v.place) n) (v.firsts + 1 - is_spin (due net p v.place)) in omega arith)
        (firsts_step net r.is_net.valid r.world r.kept p mine (due net p v.place) (ap (due net p) known.place_is) v.firsts n (never_out net p v.place)
        (let f = known.firsts in let e : cost net p (r.world.place p) ≡ cost net p v.place = ap (cost net p) known.place_is in omega arith))

    abbrev pub told : Told v n
    told = record {
      state = s;
      ruled = r;
      seat = id;
      sits = at;
      inside = mine;
      stood = known.place_is;
      found_is = found_is ∙ ap (value_found r.world p) (sym is_due);
      placed = placed';
      bounded = let f = firsts' in let b = cost_bound net r.is_net.valid p mine (next_pass (standing v) n).place placed' in omega arith;
    }

    module _ (u : ℕ) (ws : List ℕ) (hs : Homes) where
      abbrev z : View
      z = record (next_view v n) { uses = u }

      abbrev views' : List View
      views' = set s.views id z

      pub reads : length ws ≡ length s.words
          → ((j : ℕ) → j < length v.net.caps → get_or ws (2 * j + 1) 0 ≡ x_after d r.world.x j)
          → ((j : ℕ) → j < length v.net.caps → get_or ws (2 * j + 2) 0 ≡ q_after p d r.world.q j)
          → ((i : ℕ) → i + 1 < v.net.width → get_or ws (2 * length v.net.caps + 1 + i) 0 ≡ bit_after d r.world.bit i)
          → ((k : ℕ) → k < v.net.width → get_or ws (2 * length v.net.caps + v.net.width + k) 0 ≡ card_after d r.world.card k)
          → ((k : ℕ) → k < v.net.width → IsHome world'.card hs views' k ⊎ IsAway world'.card hs views' k)
          → ((k : ℕ) → v.net.width ≤ k → times k z.got ≡ 0)
          → ((k : ℕ) → z.place ≡ Holding k → u ≡ total (took_of k) views' % 2 ^ 64)
          → ((j : ℕ) (e : View) → j ≢ id → get_elem? s.views j ≡ some e → (q : ℕ) → Standing v.net r.world r.made r.maker_seat r.owner s.views j q e → (k : ℕ) → e.place ≡ Holding k → total (took_of k) views' ≡ total (took_of k) s.views)
          → (r' : IsReadOff v.net record { words = ws; homes = hs; views = views' }) × (r'.world ≡ world')
      reads wide xs qs bits card_words cards got uses as_much =
          let same : (q : ℕ) → q ≢ p → world'.place q ≡ r.world.place q = λ q o. put_else r.world.place p (after net p d (value_found r.world p d)) q o in
          let own = own_owner v.net r.world r.made r.maker_seat r.owner s.views id p v known in (
            record {
              world = world';
              made = r.made;
              maker_seat = r.maker_seat;
              owner = r.owner;
              is_net = r.is_net;
              kept = kept';
              wide = wide ∙ r.wide;
              x_is = xs;
              q_is = qs;
              bit_is = bits;
              card_is = card_words;
              cards = cards;
              few = r.few;
              weights = let t = total_set (weight v.net.parties) s.views id v z at in let w = r.weights in omega arith;
              maker = (
                r.maker.0,
                set_else s.views id r.maker_seat z (λ e. let same_view : r.maker.0 ≡ v = some-injective r.maker.0 v (sym r.maker.1 ∙ (ap (get_elem? s.views) e ∙ at)) in
                    let clash : Maker r.made ≡ Party p = sym r.maker.2 ∙ (ap (λ (x : View). x.role) same_view ∙ is) in cc) ∙ r.maker.1,
                r.maker.2,
              );
              undealt = λ q far. same q (λ e. let l = own.0 in omega arith) ∙ r.undealt q far;
              dealt = dealt_set r.made r.owner s.views id v z at (λ q h. h) r.dealt;
              each = each_set (λ (j : ℕ) (e : View). Fits v.net world' r.made r.maker_seat r.owner views' j e e.role) s.views id z
                  (subst (λ (x : Role). Fits v.net world' r.made r.maker_seat r.owner views' id z x) (sym is) record {
                    net_is = refl;
                    place_is = place_is';
                    numbers = λ q h. let m = known.numbers q h in (m.0, m.1, λ o. same q o ∙ m.2 o);
                    once = known.once;
                    got = got;
                    uses = uses;
                    firsts = firsts';
                  })
                  (λ j e other at_e. others_stay v.net r.world world' r.made r.maker_seat r.owner s.views views' id p j e e.role own.1 other same (as_much j e other at_e) (r.each j e at_e));
            },
            refl,
          )

    -- an access that leaves the cards alone
    module _ (ws : List ℕ) (same_got : got_after d v.got ≡ v.got) (same_card : card_after d r.world.card ≡ r.world.card) (free : (k : ℕ) → after net p d n ≢ Holding k) where
      as_often_as : (k : ℕ) → total (took_of k) (set s.views id (next_view v n)) ≡ total (took_of k) s.views
      as_often_as k = let t = total_set (took_of k) s.views id v (next_view v n) at in let g : times k (next_view v n).got ≡ times k v.got = ap (times k) (ap (λ (q : Place). got_after q v.got) is_due ∙ same_got) in omega arith

      pub reads_plain : length ws ≡ length s.words
          → ((j : ℕ) → j < length v.net.caps → get_or ws (2 * j + 1) 0 ≡ x_after d r.world.x j)
          → ((j : ℕ) → j < length v.net.caps → get_or ws (2 * j + 2) 0 ≡ q_after p d r.world.q j)
          → ((i : ℕ) → i + 1 < v.net.width → get_or ws (2 * length v.net.caps + 1 + i) 0 ≡ bit_after d r.world.bit i)
          → ((k : ℕ) → k < v.net.width → get_or ws (2 * length v.net.caps + v.net.width + k) 0 ≡ r.world.card k)
          → (r' : IsReadOff v.net record { words = ws; homes = s.homes; views = set s.views id (next_view v n) }) × (r'.world ≡ world')
      reads_plain wide xs qs bits card_words = reads 0 ws s.homes wide xs qs bits (λ k l. card_words k l ∙ ap (λ (f : ℕ → ℕ). f k) (sym same_card))
          (λ k l. ⊎_elim (λ (h : IsHome r.world.card s.homes s.views k). inl (ap (λ (f : ℕ → ℕ). f k) same_card ∙ h.0, (h.1.0, h.1.1, h.1.2, h.1.3 ∙ ap (λ (x : ℕ). x % 2 ^ 64) (sym (as_often_as k)))))
          (λ (a : IsAway r.world.card s.homes s.views k). inr (ap (λ (f : ℕ → ℕ). f k) same_card ∙ a.0, a.1)) (r.cards k l))
          (λ k far. ap (times k) (ap (λ (q : Place). got_after q v.got) is_due ∙ same_got) ∙ known.got k far)
          (λ k e. absurd (free k (ap (λ (q : Place). after net p q n) (sym is_due) ∙ e)))
          (λ j e other at_e q f k h. as_often_as k)
