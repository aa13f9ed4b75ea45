-- A pass is cut off the maker's view.
use Rattle.std.proofs.Common.{◌≡◌, ◌≢◌, ◌⊎◌, ℕ, ◌+◌, ◌-◌, ◌<◌, false, List, [], ◌∷◌, ◌++◌, length, set, sym, refl, ap, ◌∙◌, subst, ⊎_elim, inl, inr, arith, Option, length-set}
use mathlib.Core.Logic.{dite}
use mathlib.Core.Option.{none, some, some-injective, some-ne-none}
use mathlib.Core.Option as maybe
use native.Mathlib.Decide.{ℕ_discrete}
use lib.ListN.{get_elem?}
use Rattle.atomic_table.specs.Table.{State, Me, Splits}
use Rattle.atomic_table.proofs.Lists.{at_last, at_longer}
use Rattle.turn_lock.specs.declared.kept.Entry.{Entry}
use Rattle.pass_roles.specs.declared.role.Role.{Role}
use Rattle.pass_roles.specs.declared.role.Role.TheVariants.{Maker, Party, Spent}
use Rattle.turn_lock.specs.declared.view.View.{View}
use Rattle.turn_lock.specs.Passes.{Pass}
use Rattle.pass_roles.specs.Roles.{weigh, made_of}
use Rattle.turn_lock.specs.Rule.{is_out, weight, tickets_in, entries_in, Stays, Making, Fits, HasSeen, IsIn, IsOut, Ruled}
use Rattle.turn_lock.specs.Steps.{dealt_view, newcomer}
use Rattle.pass_roles.proofs.Members.{total_set, total_snoc, each_set, each_snoc, set_at, at_inside}
use Rattle.turn_lock.proofs.Owners.{put, put_here, put_else}
use Rattle.turn_lock.proofs.Keeps.{kept_set, longest_set, value_stays}

module _ {V L Q A : Type 0} (law_of : V → L) (party : Q → ℕ) (run : L → List (Entry Q A) → Type 0) (stands : V → List (Entry Q A) → Type 0) (law : L) (n : ℕ) where
  abbrev P : Type 0
  P = Pass L Q A

  abbrev W : Type 0
  W = View L Q A

  abbrev St : Type 0
  St = State (Option V) W

  abbrev M : Type 0
  M = Me (Option V) W

  abbrev Homes : Type 0
  Homes = List (maybe.Option (Option V))

  abbrev Rule : St → Type 0
  Rule = Ruled law_of party run stands law n

  -- the maker's view is cut
  dealt_known : (history : List (Entry Q A)) (made maker_seat last j : ℕ) (owner : ℕ → ℕ) (d : W) (role : Role) → j ≢ maker_seat
      → Fits party history law made maker_seat owner j d role → Fits party history law (made + 1) maker_seat (put owner made last) j d role
  dealt_known history made maker_seat last j owner d (Maker m) other f = absurd (other f.seat_is)
  dealt_known history made maker_seat last j owner d (Party q) other f = let inside = f.inside in record {
    law_is = f.law_is;
    inside = omega arith;
    owned = put_else owner made last q (λ e. omega arith) ∙ f.owned;
    seen = f.seen;
    mine_seen = f.mine_seen;
    mine = f.mine;
    joined = λ i y e. let h = f.joined i y e in let l = h.0 in (omega arith, put_else owner made last y.number (λ z. omega arith) ∙ h.1, h.2, h.3, h.4);
    once = f.once;
  }
  dealt_known history made maker_seat last j owner d Spent other f = record { idle = f.idle }

  value_snoc : (history : List (Entry Q A)) (homes : Homes) (views : List W) (w : W) → is_out w.stage ≡ false
      → IsIn law_of stands law history homes views ⊎ IsOut homes views → IsIn law_of stands law history homes (views ++ w ∷ []) ⊎ IsOut homes (views ++ w ∷ [])
  value_snoc history homes views w away value = ⊎_elim
      (λ (i : IsIn law_of stands law history homes views). inl (i.0, i.1, i.2, i.3, each_snoc (λ (j : ℕ) (d : W). is_out d.stage ≡ false) views w away i.4))
      (λ (o : IsOut homes views). inr (o.0, (o.1.0, o.1.1, at_longer views (w ∷ []) o.1.0 o.1.1 o.1.2, o.1.3))) value

  pub deals : (id : ℕ) (v : W) (m : ℕ) → v.role ≡ Maker m → m < n → Splits Rule id v (dealt_view v) (newcomer v)
  deals id v m is room s r at =
      let known : Making party r.history law r.made r.maker_seat r.owner id m v = subst (λ (x : Role). Fits party r.history law r.made r.maker_seat r.owner id v x) is (r.each id v at).0 in
      let last : ℕ = length s.views in let w : W = dealt_view v in let x : W = newcomer v in
      let m_is : made_of v.role ≡ r.made = ap made_of is ∙ known.made_is in
      let w_role : w.role ≡ Maker (r.made + 1) = ap (λ (k : ℕ). Maker (k + 1)) m_is in
      let x_role : x.role ≡ Party r.made = ap Party m_is in
      let now : m ≡ r.made = known.made_is in
      let inside : id < last = at_inside s.views id v at in
      let K : ℕ → W → Type 0 = λ j d. Fits party r.history law (r.made + 1) r.maker_seat (put r.owner r.made last) j d d.role × Stays r.history r.served r.drawn r.holder j d.seen d.stage in
      let here : K last x = (
        subst (λ (y : Role). Fits party r.history law (r.made + 1) r.maker_seat (put r.owner r.made last) last x y) (sym x_role) record {
          law_is = known.law_is;
          inside = omega arith;
          owned = put_here r.owner r.made last;
          seen = (r.history, refl);
          mine_seen = refl;
          mine = r.others r.made (omega arith);
          joined = λ i y e. absurd (some-ne-none y (sym e));
          once = λ q. omega arith;
        },
        tt,
      ) in
      let there : K id w = (
        subst (λ (y : Role). Fits party r.history law (r.made + 1) r.maker_seat (put r.owner r.made last) id w y) (sym w_role) record {
          law_is = known.law_is;
          made_is = refl;
          seat_is = known.seat_is;
          idle = known.idle;
        },
        (r.each id v at).1,
      ) in record {
        history = r.history;
        served = r.served;
        drawn = r.drawn;
        made = r.made + 1;
        maker_seat = r.maker_seat;
        holder = r.holder;
        owner = put r.owner r.made last;
        wide = r.wide;
        ticket_is = r.ticket_is;
        serving_is = r.serving_is;
        tickets = let t = total_set tickets_in s.views id v w at in let u = total_snoc tickets_in (set s.views id w) x in let d = r.tickets in omega arith;
        entries = let t = total_set entries_in s.views id v w at in let u = total_snoc entries_in (set s.views id w) x in let d = r.entries in omega arith;
        few = omega arith;
        weights = let t = total_set (weight n) s.views id v w at in let u = total_snoc (weight n) (set s.views id w) x in let d = r.weights in
            let a : weight n v ≡ n - m = ap (weigh n (length v.joined)) is in let b : weight n w ≡ n - (r.made + 1) = ap (weigh n (length v.joined)) w_role in let e : weight n x ≡ 1 = ap (weigh n 0) x_role in omega arith;
        maker = (w, at_longer (set s.views id w) (x ∷ []) r.maker_seat w (ap (get_elem? (set s.views id w)) (sym known.seat_is) ∙ set_at s.views id v w at), w_role);
        runs = r.runs;
        longest = ⊎_elim inl (λ (t : (j : ℕ) × (d : W) × (get_elem? (set s.views id w) j ≡ some d) × HasSeen r.history d). inr (t.0, t.1, at_longer (set s.views id w) (x ∷ []) t.0 t.1 t.2, t.3)) (longest_set law_of party run stands law n r.history s.views id v w at (λ h. h) r.longest);
        others = λ q far. r.others q (omega arith);
        kept = λ q l. dite (ℕ_discrete q r.made)
            (λ e. (x, ap (get_elem? (set s.views id w ++ x ∷ [])) (ap (put r.owner r.made last) e ∙ put_here r.owner r.made last) ∙ at_last (set s.views id w) x last (length-set s.views id w), (r.made, x_role, inl (sym e))))
            (λ other. let k = kept_set law_of party run stands law n r.made r.owner s.views id v w at (λ z h. absurd (let c : Maker m ≡ Party h.0 = sym is ∙ h.1 in cc)) r.kept q (omega arith) in
            (k.0, ap (get_elem? (set s.views id w ++ x ∷ [])) (put_else r.owner r.made last q other) ∙ at_longer (set s.views id w) (x ∷ []) (r.owner q) k.0 k.1, k.2));
        each = each_snoc K (set s.views id w) x (subst (λ (k : ℕ). K k x) (sym (length-set s.views id w)) here) (each_set K s.views id w there (λ j d other e. (dealt_known r.history r.made r.maker_seat last j r.owner d d.role (λ z. other (z ∙ sym known.seat_is)) (r.each j d e).0, (r.each j d e).1)));
        value = value_snoc r.history s.homes (set s.views id w) x refl (value_stays law_of party run stands law n s r id v w at (ap is_out known.idle) (ap is_out known.idle));
      }
