-- An entry is counted.
use Rattle.std.proofs.Common.{◌≡◌, ◌≢◌, ℕ, ◌%◌, ◌^◌, ◌≤◌, List, [], ◌∷◌, ◌++◌, length, sym, refl, ap, ◌∙◌, subst, inl, inr, arith, Option, length-set, length-append, append-nil, append_assoc}
use mathlib.Core.Option.{none, some, some-injective, some-ne-none}
use mathlib.Core.Option as maybe
use mathlib.Core.Logic.{dite}
use native.Mathlib.Decide.{dec_le}
use lib.ListN.{get_elem?}
use Rattle.atomic_table.specs.Table.{State, Me, step, keeps, Allows}
use Rattle.turn_lock.specs.declared.kept.Entry.{Entry}
use Rattle.pass_roles.specs.declared.role.Role.{Role}
use Rattle.pass_roles.specs.declared.role.Role.TheVariants.{Maker, Party, Spent}
use Rattle.turn_lock.specs.declared.view.Stage.TheVariants.{Out, Counted}
use Rattle.turn_lock.specs.declared.view.View.{View}
use Rattle.turn_lock.specs.Passes.{Pass}
use Rattle.turn_lock.specs.Rule.{has_ticket, has_entry, is_out, weight, tickets_in, entries_in, Stays, Fits, Ruled}
use Rattle.turn_lock.specs.Steps.{seated_view, longer, extends_history}
use Rattle.pass_roles.proofs.Members.{total_set, total_none, each_set, set_at}
use Rattle.turn_lock.proofs.Stays.{stays_longer, entry_has}
use Rattle.turn_lock.proofs.Owned.{own_other, own_mine}
use Rattle.turn_lock.proofs.Keeps.{kept_set, maker_set, knows, stage_is, not_home, same_words}

module _ {V L Q A : Type 0} (law_of : V → L) (party : Q → ℕ) (run : L → List (Entry Q A) → Type 0) (stands : V → List (Entry Q A) → Type 0) (law : L) (n : ℕ) where
  abbrev P : Type 0
  P = Pass L Q A

  abbrev W : Type 0
  W = View L Q A

  abbrev St : Type 0
  St = State (Option V) W

  abbrev M : Type 0
  M = Me (Option V) W

  abbrev Homes : Type 0
  Homes = List (maybe.Option (Option V))

  abbrev Rule : St → Type 0
  Rule = Ruled law_of party run stands law n

  counts_known : (history : List (Entry Q A)) (e : Entry Q A) (made maker_seat : ℕ) (owner : ℕ → ℕ) (p id j : ℕ) (d : W) (role : Role) → party e.request ≡ p → owner p ≡ id → j ≢ id
      → Fits party history law made maker_seat owner j d role → Fits party (history ++ e ∷ []) law made maker_seat owner j d role
  counts_known history e made maker_seat owner p id j d (Maker m) by at other f = record { law_is = f.law_is; made_is = f.made_is; seat_is = f.seat_is; idle = f.idle }
  counts_known history e made maker_seat owner p id j d (Party q) by at other f =
      let apart : (z : ℕ) → owner z ≡ j → party e.request ≢ z = λ z o same. other (sym o ∙ (ap owner (sym same ∙ by) ∙ at)) in record {
        law_is = f.law_is;
        inside = f.inside;
        owned = f.owned;
        seen = (f.seen.0 ++ e ∷ [], ap (λ (l : List (Entry Q A)). l ++ e ∷ []) f.seen.1 ∙ append_assoc d.seen f.seen.0 (e ∷ []));
        mine_seen = f.mine_seen;
        mine = own_other party q history e (apart q f.owned) ∙ f.mine;
        joined = λ i y e'. let h = f.joined i y e' in (h.0, h.1, own_other party y.number history e (apart y.number h.1) ∙ h.2, h.3, (h.4.0 ++ e ∷ [], ap (λ (l : List (Entry Q A)). l ++ e ∷ []) h.4.1 ∙ append_assoc y.seen h.4.0 (e ∷ [])));
        once = f.once;
      }
  counts_known history e made maker_seat owner p id j d Spent by at other f = record { idle = f.idle }

  pub counts_entry : (slots id : ℕ) (me : M) (p : P) (t : ℕ) (c : List (ℕ × Option V)) (e : Entry Q A) → me ≡ (seated_view p (Out t), c) → run p.law (p.seen ++ e ∷ []) → party e.request ≡ p.number
      → Allows Rule slots id me 2 (λ x. x) (extends_history (e ∷ []) (step slots 2 0 0 none) me)
  counts_entry slots id me p t c e eq ran by s r _ at _ = let is : me.0.role ≡ Party p.number = ap (λ (x : M). x.0.role) eq in let out : me.0.stage ≡ Out t = ap (λ (x : M). x.0.stage) eq in
      let seen_is : me.0.seen ≡ p.seen = ap (λ (x : M). x.0.seen) eq in let k = stage_is law_of party run stands law n s r id me.0 (Out t) at out in let known = knows law_of party run stands law n s r id p.number me.0 at is in let his : r.holder r.served ≡ id = ap r.holder (sym k.0) ∙ k.2 in
      let w : W = record me.0 { stage = Counted t; seen = me.0.seen ++ e ∷ []; mine = me.0.mine ++ e ∷ [] } in let h' : List (Entry Q A) = r.history ++ e ∷ [] in let wide = r.wide in
      -- nobody else has the turn, so no entry is there but those of the tickets that were served
      let all_served : length r.history ≡ r.served = (let z = total_none entries_in s.views (λ j d there. dite (dec_le 1 (has_entry d.stage))
      (λ (l : 1 ≤ has_entry d.stage). absurd (let j_is : j ≡ id = sym (entry_has r.history r.served r.drawn r.holder j d.seen d.stage l (r.each j d there).1) ∙ his in
      let is_me : d ≡ me.0 = some-injective d me.0 (sym there ∙ (ap (get_elem? s.views) j_is ∙ at)) in let none : has_entry d.stage ≡ 0 = ap (λ (y : W). has_entry y.stage) is_me ∙ ap has_entry out in omega arith))
      (λ no. omega arith)) in let d = r.entries in omega arith) in
      let same_l : p.law ≡ law = (let q : p.law ∷ [] ≡ law ∷ [] = sym (ap (λ (x : M). x.0.law) eq) ∙ known.law_is in cc) in (
        w,
        keeps,
        tt,
        record {
          history = h';
          served = r.served;
          drawn = r.drawn;
          made = r.made;
          maker_seat = r.maker_seat;
          holder = r.holder;
          owner = r.owner;
          wide = length-set s.words 2 _ ∙ r.wide;
          ticket_is = same_words law_of party run stands law n s.words 2 1 ∙ r.ticket_is;
          serving_is = same_words law_of party run stands law n s.words 2 2 ∙ r.serving_is;
          tickets = let z = total_set tickets_in s.views id me.0 w at in let d = r.tickets in let a : has_ticket me.0.stage ≡ 1 = ap has_ticket out in omega arith;
          entries = let z = total_set entries_in s.views id me.0 w at in let d = r.entries in let a : has_entry me.0.stage ≡ 0 = ap has_entry out in let g = length-append r.history (e ∷ []) in omega arith;
          few = r.few;
          weights = let z = total_set (weight n) s.views id me.0 w at in let d = r.weights in omega arith;
          maker = maker_set law_of party run stands law n r.made r.maker_seat p.number s.views id me.0 w at is r.maker;
          longest = inr (id, w, set_at s.views id me.0 w at, inl (ap (λ (x : List (Entry Q A)). x ++ e ∷ []) k.3));
          others = λ q far. own_other party q r.history e (λ same. let z = known.inside in omega arith) ∙ r.others q far;
          kept = kept_set law_of party run stands law n r.made r.owner s.views id me.0 w at (λ q h. h) r.kept;
          runs = subst (λ (x : L × List (Entry Q A)). run x.0 (x.1 ++ e ∷ [])) (λ i. (same_l i, (sym seen_is ∙ k.3) i)) ran;
          each = each_set (λ (j : ℕ) (d : W). Fits party h' law r.made r.maker_seat r.owner j d d.role × Stays h' r.served r.drawn r.holder j d.seen d.stage) s.views id w (
            subst (λ (x : Role). Fits party h' law r.made r.maker_seat r.owner id w x) (sym is) record {
              law_is = known.law_is;
              inside = known.inside;
              owned = known.owned;
              seen = ([], ap (λ (x : List (Entry Q A)). x ++ e ∷ []) (sym k.3) ∙ sym (append-nil (me.0.seen ++ e ∷ [])));
              mine_seen = own_mine party p.number me.0.seen e by ∙ ap (λ (x : List (Entry Q A)). x ++ e ∷ []) known.mine_seen;
              mine = own_mine party p.number r.history e by ∙ ap (λ (x : List (Entry Q A)). x ++ e ∷ []) known.mine;
              joined = λ i y e'. let h = known.joined i y e' in (h.0, h.1, own_other party y.number r.history e (λ same. h.3 (sym same ∙ by)) ∙ h.2, h.3, (h.4.0 ++ e ∷ [], ap (λ (l : List (Entry Q A)). l ++ e ∷ []) h.4.1 ∙ append_assoc y.seen h.4.0 (e ∷ [])));
              once = known.once;
            },
            (k.0, k.1, k.2, ap (λ (x : List (Entry Q A)). x ++ e ∷ []) k.3),
          )
              (λ j d other e'. (counts_known r.history e r.made r.maker_seat r.owner p.number id j d d.role by known.owned other (r.each j d e').0, stays_longer r.history h' r.served r.drawn r.holder id j d.seen d.stage his other (r.each j d e').1));
          value = inr (not_home law_of party run stands law n s r id me.0 at (ap is_out out), (id, w, set_at s.views id me.0 w at, refl));
        },
        λ p' t' c' eq'. let same : t ≡ t' = (let q : Out t ≡ Out t' = sym out ∙ ap (λ (x : M). x.0.stage) eq' in cc) in (
          ap (λ (z : M). let a : W = record z.0 { stage = Counted t; seen = z.0.seen ++ e ∷ []; mine = z.0.mine ++ e ∷ [] } in (a, z.1)) eq' ∙ ap (λ (z : ℕ). let a : W = seated_view (longer p' (e ∷ [])) (Counted z) in (a, c')) same,
          r.serving_is ∙ (ap (λ (z : ℕ). z % 2 ^ 64) (sym all_served) ∙ ap (λ (x : List (Entry Q A)). length x % 2 ^ 64) (sym k.3 ∙ ap (λ (x : M). x.0.seen) eq')),
        ),
      )
