-- A step of one session keeps the rule, where its own view and the words and slots are right.
use Rattle.std.proofs.Common.{◌≡◌, ◌⊎◌, ℕ, ◌+◌, ◌<◌, ◌≤◌, List, length, get_or, set, sym, refl, ap, ◌∙◌, subst, ⊎_elim, inl, inr, arith}
use mathlib.Core.Option.{some, some-injective}
use lib.ListN.{get_elem?}
use Rattle.atomic_table.proofs.Lists.{set_else}
use Rattle.kex_words.specs.Passes.{TableNet}
use Rattle.pass_roles.specs.Roles.{total, number_of, weigh}
use Rattle.pass_roles.proofs.Members.{total_set, each_set}
use Rattle.pass_roles.specs.declared.role.Role.{Role}
use Rattle.pass_roles.specs.declared.role.Role.TheVariants.{Maker, Party, Spent}
use Rattle.kex_gate.specs.declared.view.Spot.{Spot}
use Rattle.kex_gate.specs.declared.view.Visit.{Visit}
use Rattle.kex_gate.specs.declared.view.View.{View}
use Rattle.kex_gate.specs.Passes.{sessions, room_word, bit_word}
use Rattle.kex_gate.specs.Rule.{GateState, Homes, IsGate, IsHome, IsAway, MayStand, Fits, Standing, busy, is_out, kept_at, busy_in, within_in, reaches_in, owns_in, is_out_in, weight, times_numbered_in, fast_in, kept_in, home_worth, fast_worth}
use Rattle.kex_gate.proofs.Counts.{total_le, busy_one, within_busy}

-- a session weighs at least what it is worth as one that is not Free
busy_weighs : (seats : TableNet) (made maker_seat j n : ℕ) (v : View) (role : Role) → Fits seats made maker_seat j v role → busy_in v ≤ weigh n (length v.joined) role
busy_weighs seats made maker_seat j n v (Maker m) f = let z : busy_in v ≡ 0 = ap busy f.spot_is in omega arith
busy_weighs seats made maker_seat j n v (Party p) f = let z = busy_one v.spot in omega arith
busy_weighs seats made maker_seat j n v Spent f = let z : busy_in v ≡ 0 = ap busy f.spot_is in omega arith

module _ (seats : TableNet) (s : GateState) (r : IsGate seats s) where
  pub few_busy : total busy_in s.views ≤ sessions seats.net
  few_busy = let a = total_le busy_in (weight (sessions seats.net)) s.views (λ j v e. busy_weighs seats r.made r.maker_seat j (sessions seats.net) v v.role (r.each j v e)) in let b = r.weights in omega arith

  pub few_within : total within_in s.views ≤ total busy_in s.views
  few_within = total_le within_in busy_in s.views (λ j v e. within_busy v.spot)

module _ (s : GateState) (id : ℕ) (v : View) (r : IsGate v.seats s) (at : get_elem? s.views id ≡ some v) (is : v.role ≡ Party (number_of v.role)) where
  abbrev m : ℕ
  m = v.seats.net.width

  pub known : Standing v.seats r.made r.maker_seat id (number_of v.role) v
  known = subst (λ (x : Role). Fits v.seats r.made r.maker_seat id v x) is (r.each id v at)

  -- the session's spot is a
  pub low_at : (a : Spot) → v.spot ≡ a → MayStand m v.met a
  low_at a e = subst (MayStand m v.met) e known.stands

  module _ (a : Spot) (vs : List Visit) (l : List ℕ) (k : ℕ) where
    abbrev w : View
    w = record v { spot = a; visits = vs; kept = l; met = k }

    abbrev views' : List View
    views' = set s.views id w

    pub total_is : (f : View → ℕ) → total f views' + f v ≡ total f s.views + f w
    total_is f = total_set f s.views id v w at

    pub total_same : (f : View → ℕ) → f w ≡ f v → total f views' ≡ total f s.views
    total_same f e = let t = total_is f in omega arith

    pub changes : (ws : List ℕ) (hs : Homes) → MayStand m k a → length ws ≡ length s.words
        → get_or ws room_word 0 + total busy_in views' ≡ 256 + m
        → total within_in views' ≤ m
        → ((i : ℕ) → i < m → total (reaches_in i) views' + i ≤ m)
        → ((i : ℕ) → i + 1 < m → (get_or ws (bit_word i) 0 ≡ total (owns_in i) views') × (total (owns_in i) views' ≤ 1))
        → ((i : ℕ) → i < m → IsHome v.seats hs views' i ⊎ IsAway v.seats hs views' i)
        → ((f : ℕ → ℕ) → total (fast_in f) views' ≡ total (home_worth f) hs + total (kept_in f) views')
        → IsGate v.seats record { words = ws; homes = hs; views = views' }
    changes ws hs low wide room inside behind bits slots books = record {
      made = r.made;
      maker_seat = r.maker_seat;
      some_seats = r.some_seats;
      small = r.small;
      wide = wide ∙ r.wide;
      room = room;
      inside = inside;
      behind = behind;
      bits = bits;
      slots = slots;
      books = books;
      few = r.few;
      weights = total_same (weight (sessions v.seats.net)) refl ∙ r.weights;
      dealt = λ q near. total_same (times_numbered_in q) refl ∙ r.dealt q near;
      undealt = λ q far. total_same (times_numbered_in q) refl ∙ r.undealt q far;
      maker = (
        r.maker.0,
        set_else s.views id r.maker_seat w (λ e. let same_view : r.maker.0 ≡ v = some-injective r.maker.0 v (sym r.maker.1 ∙ (ap (get_elem? s.views) e ∙ at)) in
            let clash : Maker r.made ≡ Party (number_of v.role) = sym r.maker.2 ∙ (ap (λ (x : View). x.role) same_view ∙ is) in cc) ∙ r.maker.1,
        r.maker.2,
      );
      each = each_set (λ (j : ℕ) (e : View). Fits v.seats r.made r.maker_seat j e e.role) s.views id w
          (subst (λ (x : Role). Fits v.seats r.made r.maker_seat id w x) (sym is) record { seats_is = refl; stands = low }) (λ j d other e. r.each j d e);
    }

    -- the slots stay as they are
    pub slots_stay : ((i : ℕ) → is_out i a ≡ is_out i v.spot) → (i : ℕ) → i < m → IsHome v.seats s.homes views' i ⊎ IsAway v.seats s.homes views' i
    slots_stay outs i l' = let e = total_same (is_out_in i) (outs i) in
        ⊎_elim (λ (h : IsHome v.seats s.homes s.views i). inl (e ∙ h.0, h.1)) (λ (h : IsAway v.seats s.homes s.views i). inr (e ∙ h.0, h.1)) (r.slots i l')

    -- a step that touches no slot
    pub changes_plain : (ws : List ℕ) → MayStand m k a → length ws ≡ length s.words
        → ((i : ℕ) → is_out i a ≡ is_out i v.spot) → kept_at a l ≡ kept_at v.spot v.kept → ((f : ℕ → ℕ) → total (fast_worth f) vs ≡ total (fast_worth f) v.visits)
        → get_or ws room_word 0 + total busy_in views' ≡ 256 + m
        → total within_in views' ≤ m
        → ((i : ℕ) → i < m → total (reaches_in i) views' + i ≤ m)
        → ((i : ℕ) → i + 1 < m → (get_or ws (bit_word i) 0 ≡ total (owns_in i) views') × (total (owns_in i) views' ≤ 1))
        → IsGate v.seats record { words = ws; homes = s.homes; views = views' }
    changes_plain ws low wide outs kepts fasts room inside behind bits =
        changes ws s.homes low wide room inside behind bits (slots_stay outs)
        (λ f. total_same (fast_in f) (fasts f) ∙ (r.books f ∙ ap (λ (x : ℕ). total (home_worth f) s.homes + x) (sym (total_same (kept_in f) (ap (λ (z : List ℕ). total f z) kepts)))))
