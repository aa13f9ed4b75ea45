-- One pass is joined into another.
use Rattle.std.proofs.Common.{◌≡◌, ◌≢◌, ℕ, zero, suc, ◌+◌, ◌<◌, ◌≤◌, List, ◌∷◌, ◌++◌, length, set, sym, refl, ap, ◌∙◌, subst, ⊎_elim, inl, inr, arith, Option, length-append}
use mathlib.Core.Logic.{dite}
use mathlib.Core.Option.{none, some, some-injective, some-ne-none}
use mathlib.Core.Option as maybe
use native.Mathlib.Decide.{ℕ_discrete}
use lib.ListN.{get_elem?}
use Rattle.atomic_table.specs.Table.{State, Me, Joins}
use Rattle.atomic_table.proofs.Lists.{at_set, set_else, at_longer}
use Rattle.turn_lock.specs.declared.kept.Entry.{Entry}
use Rattle.pass_roles.specs.declared.role.Role.{Role}
use Rattle.pass_roles.specs.declared.role.Role.TheVariants.{Maker, Party, Spent}
use Rattle.turn_lock.specs.declared.view.Stage.TheVariants.{Idle}
use Rattle.turn_lock.specs.declared.view.Joined.{Joined}
use Rattle.turn_lock.specs.declared.view.View.{View}
use Rattle.turn_lock.specs.Entries.{IsPrefix, own}
use Rattle.turn_lock.specs.Passes.{Pass}
use Rattle.pass_roles.specs.Roles.{weigh, number_of}
use Rattle.turn_lock.specs.Rule.{has_ticket, has_entry, is_out, weight, tickets_in, entries_in, Stays, Fits, HasNumber, HasSeen, IsLongest, Ruled}
use Rattle.turn_lock.specs.Steps.{spent_view, joined_of, both}
use Rattle.pass_roles.proofs.Members.{total_set, each_set, set_at, at_append, at_behind}
use Rattle.turn_lock.proofs.Apart.{with_number, number_cons, found, once_in_both}
use Rattle.turn_lock.proofs.Owners.{moved, moved_here, moved_else}
use Rattle.turn_lock.proofs.Keeps.{knows, maker_set, value_set, value_stays}

module _ {Q A : Type 0} where
  abbrev number : Joined Q A → ℕ
  number j = j.number

  -- what holds of each joined entry holds after a join
  every : (J : Joined Q A → Type 0) (y : Joined Q A) (l m : List (Joined Q A)) → J y → ((i : ℕ) (x : Joined Q A) → get_elem? l i ≡ some x → J x) → ((i : ℕ) (x : Joined Q A) → get_elem? m i ≡ some x → J x)
      → (i : ℕ) (x : Joined Q A) → get_elem? (y ∷ (l ++ m)) i ≡ some x → J x
  every J y l m first fl fm zero x e = subst J (some-injective y x e) first
  every J y l m first fl fm (suc i) x e = ⊎_elim (λ (t : (k : ℕ) × (get_elem? l k ≡ some x)). fl t.0 x t.1) (λ (t : (k : ℕ) × (get_elem? m k ≡ some x)). fm t.0 x t.1) (at_append l m i x e)

module _ {V L Q A : Type 0} (law_of : V → L) (party : Q → ℕ) (run : L → List (Entry Q A) → Type 0) (stands : V → List (Entry Q A) → Type 0) (law : L) (n : ℕ) where
  abbrev P : Type 0
  P = Pass L Q A

  abbrev W : Type 0
  W = View L Q A

  abbrev St : Type 0
  St = State (Option V) W

  abbrev M : Type 0
  M = Me (Option V) W

  abbrev Homes : Type 0
  Homes = List (maybe.Option (Option V))

  abbrev Rule : St → Type 0
  Rule = Ruled law_of party run stands law n

  -- two views become one
  joined_known : (history : List (Entry Q A)) (made maker_seat id gone j : ℕ) (owner : ℕ → ℕ) (d : W) (role : Role) → j ≢ gone
      → Fits party history law made maker_seat owner j d role → Fits party history law made maker_seat (moved owner gone id) j d role
  joined_known history made maker_seat id gone j owner d (Maker m) other f = record { law_is = f.law_is; made_is = f.made_is; seat_is = f.seat_is; idle = f.idle }
  joined_known history made maker_seat id gone j owner d (Party q) other f = record {
    law_is = f.law_is;
    inside = f.inside;
    owned = moved_else owner gone id q (λ e. other (sym f.owned ∙ e)) ∙ f.owned;
    seen = f.seen;
    mine_seen = f.mine_seen;
    mine = f.mine;
    joined = λ i y e. let h = f.joined i y e in (h.0, moved_else owner gone id y.number (λ z. other (sym h.1 ∙ z)) ∙ h.1, h.2, h.3, h.4);
    once = f.once;
  }
  joined_known history made maker_seat id gone j owner d Spent other f = record { idle = f.idle }

  has_theirs : (x : ℕ) (v w : W) (p : ℕ) → v.role ≡ Party p → HasNumber x w → HasNumber x (both v w)
  has_theirs x v w p is h = (
    p,
    is,
    ⊎_elim (λ (e : h.0 ≡ x). inr (0, joined_of w, refl, ap number_of h.1 ∙ e))
        (λ (t : (i : ℕ) × (j : Joined Q A) × (get_elem? w.joined i ≡ some j) × (j.number ≡ x)). inr (suc t.0, t.1, at_longer w.joined v.joined t.0 t.1 t.2, t.3)) h.2,
  )

  has_mine : (x : ℕ) (v w : W) → HasNumber x v → HasNumber x (both v w)
  has_mine x v w h = (
    h.0,
    h.1,
    ⊎_elim inl
        (λ (t : (i : ℕ) × (j : Joined Q A) × (get_elem? v.joined i ≡ some j) × (j.number ≡ x)). let z = at_behind (joined_of w ∷ w.joined) v.joined t.0 t.1 t.2 in inr (z.0, t.1, z.1, t.3)) h.2,
  )

  joined_longest : (views : List W) (id gone : ℕ) (v w : W) → get_elem? views id ≡ some v → get_elem? views gone ≡ some w → gone ≢ id → (h : List (Entry Q A)) (j : ℕ) (d : W) → get_elem? views j ≡ some d → HasSeen h d
      → IsLongest h (set (set views id (both v w)) gone spent_view)
  joined_longest views id gone v w at at_w apart h j d at_d seen =
      let b : W = both v w in let views' : List W = set (set views id b) gone spent_view in
      let at_b : get_elem? views' id ≡ some b = set_else (set views id b) gone id spent_view (λ z. apart (sym z)) ∙ set_at views id v b at in
      dite (ℕ_discrete j gone)
      (λ e. let is : d ≡ w = some-injective d w (sym at_d ∙ (ap (get_elem? views) e ∙ at_w)) in inr (
        id,
        b,
        at_b,
        inr (⊎_elim (λ (z : w.seen ≡ h). (0, joined_of w, refl, z))
            (λ (t : (i : ℕ) × (y : Joined Q A) × (get_elem? w.joined i ≡ some y) × (y.seen ≡ h)). (suc t.0, t.1, at_longer w.joined v.joined t.0 t.1 t.2, t.3)) (subst (HasSeen h) is seen)),
      ))
      (λ other. dite (ℕ_discrete j id)
      (λ e. let is : d ≡ v = some-injective d v (sym at_d ∙ (ap (get_elem? views) e ∙ at)) in inr (
        id,
        b,
        at_b,
        ⊎_elim inl
            (λ (t : (i : ℕ) × (y : Joined Q A) × (get_elem? v.joined i ≡ some y) × (y.seen ≡ h)). let z = at_behind (joined_of w ∷ w.joined) v.joined t.0 t.1 t.2 in inr (z.0, t.1, z.1, t.3)) (subst (HasSeen h) is seen),
      ))
      (λ else. inr (j, d, set_else (set views id b) gone j spent_view other ∙ (set_else views id j b else ∙ at_d), seen)))

  pub joins : (id gone : ℕ) (v w : W) (p q : ℕ) → v.role ≡ Party p → w.role ≡ Party q → v.stage ≡ Idle → w.stage ≡ Idle → Joins Rule id v gone w (both v w) spent_view
  joins id gone v w p q is_v is_w idle_v idle_w s r at apart at' =
      let b : W = both v w in let none : W = spent_view in
      let at_w : get_elem? s.views gone ≡ some w = sym (set_else s.views id gone b apart) ∙ at' in
      let kv = knows law_of party run stands law n s r id p v at is_v in let kw = knows law_of party run stands law n s r gone q w at_w is_w in
      let owner' : ℕ → ℕ = moved r.owner gone id in
      let num_w : number_of w.role ≡ q = ap number_of is_w in
      let K : ℕ → W → Type 0 = λ j d. Fits party r.history law r.made r.maker_seat owner' j d d.role × Stays r.history r.served r.drawn r.holder j d.seen d.stage in
      let J : Joined Q A → Type 0 = λ y. (y.number < r.made) × (owner' y.number ≡ id) × (own party y.number r.history ≡ y.mine) × (y.number ≢ p) × IsPrefix y.seen r.history in
      let theirs : (x : ℕ) → r.owner x ≡ gone → x ≢ p = λ x o e. apart (sym o ∙ (ap r.owner e ∙ kv.owned)) in
      let first : J (joined_of w) = subst (λ (x : ℕ). J record { number = x; seen = w.seen; mine = w.mine }) (sym num_w) (kw.inside, moved_here r.owner gone id q kw.owned, kw.mine, theirs q kw.owned, kw.seen) in
      let from_w : (i : ℕ) (y : Joined Q A) → get_elem? w.joined i ≡ some y → J y = λ i y e. let h = kw.joined i y e in (h.0, moved_here r.owner gone id y.number h.1, h.2, theirs y.number h.1, h.4) in
      let from_v : (i : ℕ) (y : Joined Q A) → get_elem? v.joined i ≡ some y → J y = λ i y e. let h = kv.joined i y e in (h.0, moved_else r.owner gone id y.number (λ z. apart (sym z ∙ h.1)) ∙ h.1, h.2, h.3, h.4) in
      let here : K id b = (
        subst (λ (x : Role). Fits party r.history law r.made r.maker_seat owner' id b x) (sym is_v) record {
          law_is = kv.law_is;
          inside = kv.inside;
          owned = moved_else r.owner gone id p (λ z. apart (sym z ∙ kv.owned)) ∙ kv.owned;
          seen = kv.seen;
          mine_seen = kv.mine_seen;
          mine = kv.mine;
          joined = every J (joined_of w) w.joined v.joined first from_w from_v;
          once = λ x. let c = number_cons number x (joined_of w) (w.joined ++ v.joined) in
              let in_v : 1 ≤ with_number number x v.joined → r.owner x ≡ id = λ l. let f = found number x v.joined l in ap r.owner f.3 ∙ (kv.joined f.0 f.1 f.2).1 in
              let in_w : 1 ≤ with_number number x w.joined → r.owner x ≡ gone = λ l. let f = found number x w.joined l in ap r.owner f.3 ∙ (kw.joined f.0 f.1 f.2).1 in
              let b = once_in_both number x (number_of w.role) w.joined v.joined (kw.once x) (kv.once x)
              (λ same l. let f = found number x w.joined l in (kw.joined f.0 f.1 f.2).3 (sym f.3 ∙ (same ∙ num_w)))
              (λ l same. apart (sym kw.owned ∙ (ap r.owner (sym num_w ∙ sym same) ∙ in_v l)))
              (λ l k. apart (sym (in_w k) ∙ in_v l)) in omega (arith, c, b);
        },
        (r.each id v at).1,
      ) in
      record {
        history = r.history;
        served = r.served;
        drawn = r.drawn;
        made = r.made;
        maker_seat = r.maker_seat;
        holder = r.holder;
        owner = owner';
        wide = r.wide;
        ticket_is = r.ticket_is;
        serving_is = r.serving_is;
        tickets = let t = total_set tickets_in s.views id v b at in let u = total_set tickets_in (set s.views id b) gone w none at' in let d = r.tickets in let z : has_ticket w.stage ≡ 0 = ap has_ticket idle_w in omega arith;
        entries = let t = total_set entries_in s.views id v b at in let u = total_set entries_in (set s.views id b) gone w none at' in let d = r.entries in let z : has_entry w.stage ≡ 0 = ap has_entry idle_w in omega arith;
        few = r.few;
        weights = let t = total_set (weight n) s.views id v b at in let u = total_set (weight n) (set s.views id b) gone w none at' in let d = r.weights in
            let a : weight n v ≡ 1 + length v.joined = ap (weigh n (length v.joined)) is_v in let c : weight n w ≡ 1 + length w.joined = ap (weigh n (length w.joined)) is_w in
            let e : weight n b ≡ 1 + length (joined_of w ∷ (w.joined ++ v.joined)) = ap (weigh n (length b.joined)) is_v in let f = length-append w.joined v.joined in omega arith;
        maker = maker_set law_of party run stands law n r.made r.maker_seat q (set s.views id b) gone w none at' is_w (maker_set law_of party run stands law n r.made r.maker_seat p s.views id v b at is_v r.maker);
        runs = r.runs;
        longest = ⊎_elim inl (λ (t : (j : ℕ) × (d : W) × (get_elem? s.views j ≡ some d) × HasSeen r.history d). joined_longest s.views id gone v w at at_w apart r.history t.0 t.1 t.2 t.3) r.longest;
        others = r.others;
        kept = λ x l. let k = r.kept x l in let views' : List W = set (set s.views id b) gone none in
            let at_b : get_elem? views' id ≡ some b = set_else (set s.views id b) gone id none (λ z. apart (sym z)) ∙ set_at s.views id v b at in
            dite (ℕ_discrete (r.owner x) gone)
            (λ e. let is : k.0 ≡ w = some-injective k.0 w (sym k.1 ∙ (ap (get_elem? s.views) e ∙ at_w)) in
            (b, ap (get_elem? views') (moved_here r.owner gone id x e) ∙ at_b, has_theirs x v w p is_v (subst (HasNumber x) is k.2)))
            (λ other. dite (ℕ_discrete (r.owner x) id)
            (λ e. let is : k.0 ≡ v = some-injective k.0 v (sym k.1 ∙ (ap (get_elem? s.views) e ∙ at)) in
            (b, ap (get_elem? views') (moved_else r.owner gone id x other ∙ e) ∙ at_b, has_mine x v w (subst (HasNumber x) is k.2)))
            (λ else. (k.0, ap (get_elem? views') (moved_else r.owner gone id x other) ∙ (set_else (set s.views id b) gone (r.owner x) none other ∙ (set_else s.views id (r.owner x) b else ∙ k.1)), k.2)));
        each = each_set K (set s.views id b) gone none (record { idle = refl }, tt)
            (λ j d other e. ⊎_elim (λ (t : (j ≡ id) × (b ≡ d)). subst (λ (z : ℕ × W). K z.0 z.1) (λ i. (sym t.0 i, t.1 i)) here)
            (λ (t : (j ≢ id) × (get_elem? s.views j ≡ some d)). (joined_known r.history r.made r.maker_seat id gone j r.owner d d.role other (r.each j d t.1).0, (r.each j d t.1).1))
            (at_set s.views id j b d e));
        value = value_set law_of party run stands law n r.history s.homes (set s.views id b) gone w none at' (ap is_out idle_w) refl (value_stays law_of party run stands law n s r id v b at (ap is_out idle_v) (ap is_out idle_v));
      }
