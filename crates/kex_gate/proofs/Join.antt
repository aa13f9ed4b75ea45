-- One session that is Free is joined into another.
use Rattle.std.proofs.Common.{◌≡◌, ◌≢◌, ℕ, ◌+◌, List, ◌∷◌, ◌++◌, length, set, sym, refl, ap, ◌∙◌, subst, ⊎_elim, inl, inr, arith, length-append}
use mathlib.Core.Option.{some, some-injective}
use lib.ListN.{get_elem?}
use Rattle.atomic_table.specs.Table.{Joins}
use Rattle.atomic_table.proofs.Lists.{at_set, set_else}
use Rattle.kex_words.specs.Passes.{times}
use Rattle.pass_roles.specs.Roles.{total, number_of, weigh}
use Rattle.pass_roles.proofs.Members.{total_set, each_set}
use Rattle.kex_words.proofs.Times.{times_append}
use Rattle.pass_roles.specs.declared.role.Role.{Role}
use Rattle.pass_roles.specs.declared.role.Role.TheVariants.{Maker, Party}
use Rattle.kex_gate.specs.declared.view.Spot.{Spot}
use Rattle.kex_gate.specs.declared.view.Spot.TheVariants.{Free}
use Rattle.kex_gate.specs.declared.view.View.{View}
use Rattle.kex_gate.specs.Passes.{sessions}
use Rattle.kex_gate.specs.Rule.{IsGate, IsHome, IsAway, Fits, times_numbered, busy, within, reaches, owns, is_out, kept_at, busy_in, within_in, reaches_in, owns_in, is_out_in, weight, times_numbered_in, fast_in, kept_in, fast_worth}
use Rattle.kex_gate.specs.Steps.{both, spent_view}
use Rattle.kex_gate.proofs.Counts.{total_append}
use Rattle.kex_gate.proofs.Keeps.{known}

pub joins : (id gone : ℕ) (v w : View) → v.role ≡ Party (number_of v.role) → w.role ≡ Party (number_of w.role) → w.spot ≡ Free → Joins (IsGate v.seats) id v gone w (both v w) spent_view
joins id gone v w is_v is_w free s r at apart at' =
    let p : ℕ = number_of v.role in let q : ℕ = number_of w.role in let n : ℕ = sessions v.seats.net in
    let b : View = both v w in let views' : List View = set (set s.views id b) gone spent_view in
    let at_w : get_elem? s.views gone ≡ some w = sym (set_else s.views id gone b apart) ∙ at' in
    let kv = known s id v r at is_v in
    let total_is : (f : View → ℕ) → total f views' + f v + f w ≡ total f s.views + f b + f spent_view = λ f.
    let t = total_set f s.views id v b at in let u = total_set f (set s.views id b) gone w spent_view at' in omega arith in
    let same : (f : View → ℕ) → f b ≡ f v → f spent_view ≡ 0 → f w ≡ 0 → total f views' ≡ total f s.views = λ f e z y. let t = total_is f in omega arith in
    let K : ℕ → View → Type 0 = λ j d. Fits v.seats r.made r.maker_seat j d d.role in
    let here : K id b = subst (λ (x : Role). Fits v.seats r.made r.maker_seat id b x) (sym is_v) record { seats_is = refl; stands = kv.stands } in
    let no_maker : (i x : ℕ) (d : View) → get_elem? s.views i ≡ some d → d.role ≡ Party x → r.maker_seat ≢ i = λ i x d at_d is_d e.
    let same_view : r.maker.0 ≡ d = some-injective r.maker.0 d (sym r.maker.1 ∙ (ap (get_elem? s.views) e ∙ at_d)) in
    let clash : Maker r.made ≡ Party x = sym r.maker.2 ∙ (ap (λ (y : View). y.role) same_view ∙ is_d) in cc in
    let all_numbers : (x : ℕ) → total (times_numbered_in x) views' ≡ total (times_numbered_in x) s.views = λ x. let t = total_is (times_numbered_in x) in
    let a : times_numbered_in x v ≡ times x (p ∷ v.joined) = ap (times_numbered x v.joined) is_v in let c : times_numbered_in x w ≡ times x (q ∷ w.joined) = ap (times_numbered x w.joined) is_w in
    let d : times_numbered_in x b ≡ times x (p ∷ q ∷ (w.joined ++ v.joined)) = ap (times_numbered x b.joined) is_v in let e = times_append x w.joined v.joined in omega arith in
    record {
      made = r.made;
      maker_seat = r.maker_seat;
      some_seats = r.some_seats;
      small = r.small;
      wide = r.wide;
      room = let a = same busy_in refl refl (ap busy free) in let c = r.room in omega arith;
      inside = let a = same within_in refl refl (ap within free) in let c = r.inside in omega arith;
      behind = λ i l. let a = same (reaches_in i) refl refl (ap (reaches i) free) in let c = r.behind i l in omega arith;
      bits = λ i l. let a = same (owns_in i) refl refl (ap (owns i) free) in let c = r.bits i l in (omega arith, omega arith);
      slots = λ i l. let e = same (is_out_in i) refl refl (ap (is_out i) free) in ⊎_elim (λ (h : IsHome v.seats s.homes s.views i). inl (e ∙ h.0, h.1)) (λ (h : IsAway v.seats s.homes s.views i). inr (e ∙ h.0, h.1)) (r.slots i l);
      books = λ f. let t = total_is (fast_in f) in let a = total_append (fast_worth f) v.visits w.visits in
          let c = same (kept_in f) refl refl (ap (λ (x : Spot). total f (kept_at x w.kept)) free) in let d = r.books f in omega arith;
      few = r.few;
      weights = let t = total_is (weight n) in let d = r.weights in
          let a : weight n v ≡ 1 + length v.joined = ap (weigh n (length v.joined)) is_v in let c : weight n w ≡ 1 + length w.joined = ap (weigh n (length w.joined)) is_w in
          let e : weight n b ≡ 1 + length (q ∷ (w.joined ++ v.joined)) = ap (weigh n (length b.joined)) is_v in let f = length-append w.joined v.joined in omega arith;
      dealt = λ x near. all_numbers x ∙ r.dealt x near;
      undealt = λ x far. all_numbers x ∙ r.undealt x far;
      maker = (r.maker.0, set_else (set s.views id b) gone r.maker_seat spent_view (no_maker gone q w at_w is_w) ∙ (set_else s.views id r.maker_seat b (no_maker id p v at is_v) ∙ r.maker.1), r.maker.2);
      each = each_set K (set s.views id b) gone spent_view (record { spot_is = refl; visits = refl })
          (λ j d other e. ⊎_elim (λ (t : (j ≡ id) × (b ≡ d)). subst (λ (z : ℕ × View). K z.0 z.1) (λ i. (sym t.0 i, t.1 i)) here)
          (λ (t : (j ≢ id) × (get_elem? s.views j ≡ some d)). r.each j d t.1) (at_set s.views id j b d e));
    }
