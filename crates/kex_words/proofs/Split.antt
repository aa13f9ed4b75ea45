-- A pass is cut off the maker's view. The world stays as it is.
use Rattle.std.proofs.Common.{◌≡◌, ◌≢◌, ℕ, ◌+◌, ◌-◌, ◌%◌, ◌^◌, ◌<◌, ◌≤◌, List, [], ◌∷◌, ◌++◌, length, set, sym, refl, ap, ◌∙◌, subst, ⊎_elim, inl, inr, arith, length-set, Option}
use mathlib.Core.Logic.{dite}
use native.Mathlib.Decide.{ℕ_discrete}
use lib.ListN.{get_elem?}
use Rattle.atomic_table.specs.Table.{State, Splits}
use Rattle.atomic_table.proofs.Lists.{at_last, at_longer}
use Rattle.kex_core.specs.declared.place.Place.TheVariants.{Out, Holding}
use Rattle.kex_core.specs.Worlds.{Machine, put}
use Rattle.kex_core.specs.Shapes.{Sheet}
use Rattle.kex_core.proofs.Sums.{same_or, put_at, put_else}
use Rattle.kex_words.specs.declared.card.Card.{Card}
use Rattle.pass_roles.specs.declared.role.Role.{Role}
use Rattle.pass_roles.specs.declared.role.Role.TheVariants.{Maker, Party, Spent}
use Rattle.kex_words.specs.declared.view.View.{View}
use Rattle.kex_words.specs.Passes.{times}
use Rattle.pass_roles.specs.Roles.{total, made_of, number_of, weigh}
use Rattle.kex_words.specs.Rule.{took_of, weight, Making, Fits, IsHome, IsAway, IsReadOff}
use Rattle.kex_words.specs.Steps.{dealt_view, newcomer}
use Rattle.pass_roles.proofs.Members.{total_set, total_snoc, each_set, each_snoc, set_at}
use Rattle.kex_words.proofs.Times.{times_head, times_other, own_number}
use Rattle.kex_words.proofs.Keeps.{dealt_set}

abbrev St : Type 0
St = State (Option Card) View

times_one : (q p : ℕ) → 0 < times q (p ∷ []) → q ≡ p
times_one q p h = ⊎_elim (λ (e : q ≡ p). e) (λ (o : q ≢ p). let a = times_other q p [] (λ e. o (sym e)) in absurd (omega arith)) (same_or q p)

times_alone : (q p : ℕ) → times q (p ∷ []) ≤ 1
times_alone q p = ⊎_elim (λ (e : p ≡ q). let a : times q (p ∷ []) ≡ times q (q ∷ []) = ap (λ (x : ℕ). times q (x ∷ [])) e in let b = times_head q [] in omega arith) (λ (o : p ≢ q). let a = times_other q p [] o in omega arith) (same_or p q)

-- the other views, once one more pass was dealt
others_dealt : (sheet : Sheet) (world : Machine) (made maker_seat last : ℕ) (owner : ℕ → ℕ) (views views' : List View) (j : ℕ) (d : View) (role : Role) → j ≢ maker_seat
    → ((k : ℕ) → total (took_of k) views' ≡ total (took_of k) views)
    → Fits sheet world made maker_seat owner views j d role → Fits sheet world (made + 1) maker_seat (put owner made last) views' j d role
others_dealt sheet world made maker_seat last owner views views' j d (Maker m) other as_much f = absurd (other f.seat_is)
others_dealt sheet world made maker_seat last owner views views' j d (Party q) other as_much f = record {
  net_is = f.net_is;
  place_is = f.place_is;
  numbers = λ x h. let n = f.numbers x h in let l = n.0 in (omega arith, put_else owner made last x (λ e. omega arith) ∙ n.1, n.2);
  once = f.once;
  got = f.got;
  uses = λ k e. f.uses k e ∙ ap (λ (z : ℕ). z % 2 ^ 64) (sym (as_much k));
  firsts = f.firsts;
}
others_dealt sheet world made maker_seat last owner views views' j d Spent other as_much f = record { got = f.got }

pub deals : (id : ℕ) (v : View) (m : ℕ) → v.role ≡ Maker m → m < v.net.parties → Splits (IsReadOff v.net) id v (dealt_view v) (newcomer v)
deals id v m is room s r at =
    let known : Making v.net r.world r.made r.maker_seat r.owner s.views id m v = subst (λ (x : Role). Fits v.net r.world r.made r.maker_seat r.owner s.views id v x) is (r.each id v at) in
    let last : ℕ = length s.views in let w : View = dealt_view v in let x : View = newcomer v in
    let m_is : made_of v.role ≡ r.made = ap made_of is ∙ known.made_is in
    let w_role : w.role ≡ Maker (r.made + 1) = ap (λ (k : ℕ). Maker (k + 1)) m_is in
    let x_role : x.role ≡ Party r.made = ap Party m_is in
    let now : m ≡ r.made = known.made_is in
    let owner' : ℕ → ℕ = put r.owner r.made last in
    let views' : List View = set s.views id w ++ x ∷ [] in
    let as_much : (k : ℕ) → total (took_of k) views' ≡ total (took_of k) s.views = λ k. let t = total_set (took_of k) s.views id v w at in let u = total_snoc (took_of k) (set s.views id w) x in omega arith in
    let K : ℕ → View → Type 0 = λ j d. Fits v.net r.world (r.made + 1) r.maker_seat owner' views' j d d.role in
    let here : K last x = subst (λ (y : Role). Fits v.net r.world (r.made + 1) r.maker_seat owner' views' last x y) (sym x_role) record {
      net_is = refl;
      place_is = r.undealt r.made (omega arith);
      numbers = λ q h. let e = times_one q r.made h in (omega arith, put_at r.owner r.made last q e, λ o. absurd (o e));
      once = λ q. times_alone q r.made;
      got = λ k far. refl;
      uses = λ k e. absurd (never k e);
      firsts = omega arith;
    } in
    let there : K id w = subst (λ (y : Role). Fits v.net r.world (r.made + 1) r.maker_seat owner' views' id w y) (sym w_role) record {
      net_is = refl;
      made_is = refl;
      seat_is = known.seat_is;
      got = known.got;
    } in record {
      world = r.world;
      made = r.made + 1;
      maker_seat = r.maker_seat;
      owner = owner';
      is_net = r.is_net;
      kept = r.kept;
      wide = r.wide;
      x_is = r.x_is;
      q_is = r.q_is;
      bit_is = r.bit_is;
      card_is = r.card_is;
      cards = λ k l. ⊎_elim (λ (h : IsHome r.world.card s.homes s.views k). inl (h.0, (h.1.0, h.1.1, h.1.2, h.1.3 ∙ ap (λ (y : ℕ). y % 2 ^ 64) (sym (as_much k))))) (λ (a : IsAway r.world.card s.homes s.views k). inr a) (r.cards k l);
      few = omega arith;
      weights = let t = total_set (weight v.net.parties) s.views id v w at in let u = total_snoc (weight v.net.parties) (set s.views id w) x in let d = r.weights in
          let a : weight v.net.parties v ≡ v.net.parties - m = ap (weigh v.net.parties (length v.joined)) is in let b : weight v.net.parties w ≡ v.net.parties - (r.made + 1) = ap (weigh v.net.parties (length v.joined)) w_role in
          let e : weight v.net.parties x ≡ 1 = ap (weigh v.net.parties 0) x_role in omega arith;
      maker = (w, ap (get_elem? views') (sym known.seat_is) ∙ at_longer (set s.views id w) (x ∷ []) id w (set_at s.views id v w at), w_role);
      undealt = λ q far. r.undealt q (omega arith);
      dealt = λ q l. dite (ℕ_discrete q r.made)
          (λ e. (x, ap (get_elem? views') (put_at r.owner r.made last q e) ∙ at_last (set s.views id w) x last (length-set s.views id w), (refl, subst (λ (y : ℕ). 0 < times q (y ∷ [])) (e ∙ sym m_is) (own_number q []))))
          (λ other. let k = dealt_set r.made r.owner s.views id v w at (λ z h. absurd (let c : Maker m ≡ Party (number_of v.role) = sym is ∙ h.0 in cc)) r.dealt q (omega arith) in
          (k.0, ap (get_elem? views') (put_else r.owner r.made last q other) ∙ at_longer (set s.views id w) (x ∷ []) (r.owner q) k.0 k.1, k.2));
      each = each_snoc K (set s.views id w) x (subst (λ (k : ℕ). K k x) (sym (length-set s.views id w)) here)
          (each_set K s.views id w there (λ j d other e. others_dealt v.net r.world r.made r.maker_seat last r.owner s.views views' j d d.role (λ z. other (z ∙ sym known.seat_is)) as_much (r.each j d e)));
    }
  where
    never : (k : ℕ) → Out ≢ Holding k
    never k e = cc
