-- One pass that is Out is joined into another. The world stays as it is.
use Rattle.std.proofs.Common.{◌≡◌, ◌≢◌, ℕ, ◌+◌, ◌%◌, ◌^◌, ◌<◌, Bool, cond, eqb, ne_eqb, eq-eqb, List, ◌∷◌, ◌++◌, length, set, sym, refl, ap, ◌∙◌, subst, ⊎_elim, inl, inr, arith, length-append, Option}
use mathlib.Core.Logic.{dite}
use mathlib.Core.Option.{some, some-injective}
use native.Mathlib.Decide.{ℕ_discrete, dec_le}
use lib.ListN.{get_elem?}
use Rattle.atomic_table.specs.Table.{State, Joins}
use Rattle.atomic_table.proofs.Lists.{at_set, set_else}
use Rattle.kex_core.specs.declared.place.Place.TheVariants.{Out}
use Rattle.kex_core.specs.Worlds.{Machine}
use Rattle.kex_core.specs.Shapes.{Sheet}
use Rattle.kex_core.proofs.Sums.{same_or}
use Rattle.kex_words.specs.declared.card.Card.{Card}
use Rattle.pass_roles.specs.declared.role.Role.{Role}
use Rattle.pass_roles.specs.declared.role.Role.TheVariants.{Maker, Party, Spent}
use Rattle.kex_words.specs.declared.view.View.{View}
use Rattle.kex_words.specs.Passes.{times}
use Rattle.pass_roles.specs.Roles.{total, number_of, weigh}
use Rattle.kex_words.specs.Rule.{took_of, weight, Fits, HasNumber, IsHome, IsAway, IsReadOff}
use Rattle.kex_words.specs.Steps.{spent_view, both}
use Rattle.pass_roles.proofs.Members.{total_set, each_set, set_at}
use Rattle.kex_words.proofs.Times.{times_append}
use Rattle.kex_words.proofs.Keeps.{knows}

abbrev St : Type 0
St = State (Option Card) View

-- all that the seat i had is the seat c's
abbrev pub moved : (ℕ → ℕ) → ℕ → ℕ → ℕ → ℕ
moved f i c j = cond (eqb (f j) i) c (f j)

moved_here : (f : ℕ → ℕ) (i c j : ℕ) → f j ≡ i → moved f i c j ≡ c
moved_here f i c j e = ap (λ (b : Bool). cond b c (f j)) (eq-eqb (f j) i e)

moved_else : (f : ℕ → ℕ) (i c j : ℕ) → f j ≢ i → moved f i c j ≡ f j
moved_else f i c j n = ap (λ (b : Bool). cond b c (f j)) (ne_eqb (f j) i n)

-- the numbers of both
times_both : (x p q : ℕ) (l m : List ℕ) → times x (p ∷ q ∷ (m ++ l)) ≡ times x (p ∷ l) + times x (q ∷ m)
times_both x p q l m = let a = times_append x m l in omega arith

-- the other views, once the numbers of one seat are another's
others_joined : (sheet : Sheet) (world : Machine) (made maker_seat id gone : ℕ) (owner : ℕ → ℕ) (views views' : List View) (j : ℕ) (d : View) (role : Role) → j ≢ gone
    → ((k : ℕ) → total (took_of k) views' ≡ total (took_of k) views)
    → Fits sheet world made maker_seat owner views j d role → Fits sheet world made maker_seat (moved owner gone id) views' j d role
others_joined sheet world made maker_seat id gone owner views views' j d (Maker m) other as_much f = record { net_is = f.net_is; made_is = f.made_is; seat_is = f.seat_is; got = f.got }
others_joined sheet world made maker_seat id gone owner views views' j d (Party q) other as_much f = record {
  net_is = f.net_is;
  place_is = f.place_is;
  numbers = λ x h. let n = f.numbers x h in (n.0, moved_else owner gone id x (λ e. other (sym n.1 ∙ e)) ∙ n.1, n.2);
  once = f.once;
  got = f.got;
  uses = λ k e. f.uses k e ∙ ap (λ (z : ℕ). z % 2 ^ 64) (sym (as_much k));
  firsts = f.firsts;
}
others_joined sheet world made maker_seat id gone owner views views' j d Spent other as_much f = record { got = f.got }

has_mine : (x : ℕ) (v w : View) → HasNumber x v → HasNumber x (both v w)
has_mine x v w h = (h.0, let a = times_both x (number_of v.role) (number_of w.role) v.joined w.joined in let b = h.1 in omega arith)

has_theirs : (x : ℕ) (v w : View) → v.role ≡ Party (number_of v.role) → HasNumber x w → HasNumber x (both v w)
has_theirs x v w is h = (is, let a = times_both x (number_of v.role) (number_of w.role) v.joined w.joined in let b = h.1 in omega arith)

pub joins : (id gone : ℕ) (v w : View) → v.role ≡ Party (number_of v.role) → w.role ≡ Party (number_of w.role) → w.place ≡ Out → Joins (IsReadOff v.net) id v gone w (both v w) spent_view
joins id gone v w is_v is_w out s r at apart at' =
    let p : ℕ = number_of v.role in let q : ℕ = number_of w.role in let n : ℕ = v.net.parties in
    let b : View = both v w in let views' : List View = set (set s.views id b) gone spent_view in
    let at_w : get_elem? s.views gone ≡ some w = sym (set_else s.views id gone b apart) ∙ at' in
    let kv = knows v.net s r id p v at is_v in let kw = knows v.net s r gone q w at_w is_w in
    let owner' : ℕ → ℕ = moved r.owner gone id in
    let as_much : (k : ℕ) → total (took_of k) views' ≡ total (took_of k) s.views = λ k.
    let t = total_set (took_of k) s.views id v b at in let u = total_set (took_of k) (set s.views id b) gone w spent_view at' in let a = times_append k v.got w.got in omega arith in
    let at_b : get_elem? views' id ≡ some b = set_else (set s.views id b) gone id spent_view (λ z. apart (sym z)) ∙ set_at s.views id v b at in
    let K : ℕ → View → Type 0 = λ j d. Fits v.net r.world r.made r.maker_seat owner' views' j d d.role in
    let ours : (x : ℕ) → 0 < times x (p ∷ v.joined) → (x < r.made) × (owner' x ≡ id) × (x ≢ p → r.world.place x ≡ Out) = λ x h. let m = kv.numbers x h in (m.0, moved_else r.owner gone id x (λ z. apart (sym z ∙ m.1)) ∙ m.1, m.2) in
    let theirs : (x : ℕ) → 0 < times x (q ∷ w.joined) → (x < r.made) × (owner' x ≡ id) × (x ≢ p → r.world.place x ≡ Out) = λ x h. let m = kw.numbers x h in
    (m.0, moved_here r.owner gone id x m.1, λ _. ⊎_elim (λ (e : x ≡ q). ap r.world.place e ∙ (kw.place_is ∙ out)) (λ (o : x ≢ q). m.2 o) (same_or x q)) in
    let here : K id b = subst (λ (x : Role). Fits v.net r.world r.made r.maker_seat owner' views' id b x) (sym is_v) record {
      net_is = refl;
      place_is = kv.place_is;
      numbers = λ x h. let a = times_both x p q v.joined w.joined in dite (dec_le 1 (times x (p ∷ v.joined))) (λ y. ours x y) (λ y. theirs x (omega arith));
      once = λ x. let a = times_both x p q v.joined w.joined in let c = kv.once x in let d = kw.once x in
          dite (dec_le 1 (times x (p ∷ v.joined))) (λ y. dite (dec_le 1 (times x (q ∷ w.joined))) (λ z. absurd (apart (sym (kw.numbers x z).1 ∙ (kv.numbers x y).1))) (λ z. omega arith)) (λ y. omega arith);
      got = λ k far. let a = times_append k v.got w.got in let c = kv.got k far in let d = kw.got k far in omega arith;
      uses = λ k e. kv.uses k e ∙ ap (λ (z : ℕ). z % 2 ^ 64) (sym (as_much k));
      firsts = kv.firsts;
    } in
    let no_maker : (i x : ℕ) (d : View) → get_elem? s.views i ≡ some d → d.role ≡ Party x → r.maker_seat ≢ i = λ i x d at_d is_d e.
    let same_view : r.maker.0 ≡ d = some-injective r.maker.0 d (sym r.maker.1 ∙ (ap (get_elem? s.views) e ∙ at_d)) in
    let clash : Maker r.made ≡ Party x = sym r.maker.2 ∙ (ap (λ (y : View). y.role) same_view ∙ is_d) in cc in
    record {
      world = r.world;
      made = r.made;
      maker_seat = r.maker_seat;
      owner = owner';
      is_net = r.is_net;
      kept = r.kept;
      wide = r.wide;
      x_is = r.x_is;
      q_is = r.q_is;
      bit_is = r.bit_is;
      card_is = r.card_is;
      cards = λ k l. ⊎_elim (λ (h : IsHome r.world.card s.homes s.views k). inl (h.0, (h.1.0, h.1.1, h.1.2, h.1.3 ∙ ap (λ (y : ℕ). y % 2 ^ 64) (sym (as_much k))))) (λ (a : IsAway r.world.card s.homes s.views k). inr a) (r.cards k l);
      few = r.few;
      weights = let t = total_set (weight n) s.views id v b at in let u = total_set (weight n) (set s.views id b) gone w spent_view at' in let d = r.weights in
          let a : weight n v ≡ 1 + length v.joined = ap (weigh n (length v.joined)) is_v in let c : weight n w ≡ 1 + length w.joined = ap (weigh n (length w.joined)) is_w in
          let e : weight n b ≡ 1 + length (q ∷ (w.joined ++ v.joined)) = ap (weigh n (length b.joined)) is_v in let f = length-append w.joined v.joined in omega arith;
      maker = (r.maker.0, set_else (set s.views id b) gone r.maker_seat spent_view (no_maker gone q w at_w is_w) ∙ (set_else s.views id r.maker_seat b (no_maker id p v at is_v) ∙ r.maker.1), r.maker.2);
      undealt = r.undealt;
      dealt = λ x l. let k = r.dealt x l in dite (ℕ_discrete (r.owner x) gone)
          (λ e. let is : k.0 ≡ w = some-injective k.0 w (sym k.1 ∙ (ap (get_elem? s.views) e ∙ at_w)) in (b, ap (get_elem? views') (moved_here r.owner gone id x e) ∙ at_b, has_theirs x v w is_v (subst (HasNumber x) is k.2)))
          (λ other. dite (ℕ_discrete (r.owner x) id)
          (λ e. let is : k.0 ≡ v = some-injective k.0 v (sym k.1 ∙ (ap (get_elem? s.views) e ∙ at)) in (b, ap (get_elem? views') (moved_else r.owner gone id x other ∙ e) ∙ at_b, has_mine x v w (subst (HasNumber x) is k.2)))
          (λ else. (k.0, ap (get_elem? views') (moved_else r.owner gone id x other) ∙ (set_else (set s.views id b) gone (r.owner x) spent_view other ∙ (set_else s.views id (r.owner x) b else ∙ k.1)), k.2)));
      each = each_set K (set s.views id b) gone spent_view (record { got = refl })
          (λ j d other e. ⊎_elim (λ (t : (j ≡ id) × (b ≡ d)). subst (λ (z : ℕ × View). K z.0 z.1) (λ i. (sym t.0 i, t.1 i)) here)
          (λ (t : (j ≢ id) × (get_elem? s.views j ≡ some d)). others_joined v.net r.world r.made r.maker_seat id gone r.owner s.views views' j d d.role other as_much (r.each j d t.1))
          (at_set s.views id j b d e));
    }
