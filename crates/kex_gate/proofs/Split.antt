-- One more pass is dealt.
use Rattle.std.proofs.Common.{◌≡◌, ◌≢◌, ℕ, ◌+◌, ◌-◌, ◌<◌, List, [], ◌∷◌, ◌++◌, length, set, sym, refl, ap, ◌∙◌, subst, ⊎_elim, inl, inr, arith, length-set}
use lib.ListN.{get_elem?}
use Rattle.atomic_table.specs.Table.{Splits}
use Rattle.atomic_table.proofs.Lists.{at_longer}
use Rattle.kex_core.proofs.Sums.{same_or}
use Rattle.kex_words.specs.Passes.{TableNet, times}
use Rattle.pass_roles.specs.Roles.{total, made_of, weigh}
use Rattle.pass_roles.proofs.Members.{total_set, total_snoc, each_set, each_snoc, set_at}
use Rattle.kex_words.proofs.Times.{times_head, times_other}
use Rattle.pass_roles.specs.declared.role.Role.{Role}
use Rattle.pass_roles.specs.declared.role.Role.TheVariants.{Maker, Party, Spent}
use Rattle.kex_gate.specs.declared.view.View.{View}
use Rattle.kex_gate.specs.Passes.{sessions}
use Rattle.kex_gate.specs.Rule.{IsGate, IsHome, IsAway, Fits, Making, times_numbered, busy_in, within_in, reaches_in, owns_in, is_out_in, weight, times_numbered_in, fast_in, kept_in}
use Rattle.kex_gate.specs.Steps.{dealt_view, newcomer}

-- the other views, once one more pass was dealt
others_dealt : (seats : TableNet) (made maker_seat j : ℕ) (d : View) (role : Role) → j ≢ maker_seat → Fits seats made maker_seat j d role → Fits seats (made + 1) maker_seat j d role
others_dealt seats made maker_seat j d (Maker m) other f = absurd (other f.seat_is)
others_dealt seats made maker_seat j d (Party q) other f = record { seats_is = f.seats_is; stands = f.stands }
others_dealt seats made maker_seat j d Spent other f = record { spot_is = f.spot_is; visits = f.visits }

pub deals : (id : ℕ) (v : View) (k : ℕ) → v.role ≡ Maker k → k < sessions v.seats.net → Splits (IsGate v.seats) id v (dealt_view v) (newcomer v)
deals id v k is room s r at =
    let n : ℕ = sessions v.seats.net in
    let known : Making v.seats r.made r.maker_seat id k v = subst (λ (x : Role). Fits v.seats r.made r.maker_seat id v x) is (r.each id v at) in
    let last : ℕ = length s.views in let w : View = dealt_view v in let x : View = newcomer v in
    let now : k ≡ r.made = known.made_is in
    let w_role : w.role ≡ Maker (r.made + 1) = ap (λ (z : Role). Maker (made_of z + 1)) is ∙ ap (λ (z : ℕ). Maker (z + 1)) now in
    let x_role : x.role ≡ Party r.made = ap (λ (z : Role). Party (made_of z)) is ∙ ap Party now in
    let views' : List View = set s.views id w ++ x ∷ [] in
    let total_is : (f : View → ℕ) → total f views' + f v ≡ total f s.views + f w + f x = λ f. let t = total_set f s.views id v w at in let u = total_snoc f (set s.views id w) x in omega arith in
    let same : (f : View → ℕ) → f w ≡ f v → f x ≡ 0 → total f views' ≡ total f s.views = λ f e z. let t = total_is f in omega arith in
    let K : ℕ → View → Type 0 = λ j d. Fits v.seats (r.made + 1) r.maker_seat j d d.role in
    let here : K last x = subst (λ (y : Role). Fits v.seats (r.made + 1) r.maker_seat last x y) (sym x_role) record { seats_is = refl; stands = tt } in
    let there : K id w = subst (λ (y : Role). Fits v.seats (r.made + 1) r.maker_seat id w y) (sym w_role) record { seats_is = refl; made_is = refl; seat_is = known.seat_is; spot_is = known.spot_is; visits = known.visits } in
    let one_more : (q : ℕ) → total (times_numbered_in q) views' ≡ total (times_numbered_in q) s.views + times q (r.made ∷ []) = λ q. let t = total_is (times_numbered_in q) in
    let a : times_numbered_in q v ≡ 0 = ap (times_numbered q v.joined) is in let b : times_numbered_in q w ≡ 0 = ap (times_numbered q v.joined) w_role in let c : times_numbered_in q x ≡ times q (r.made ∷ []) = ap (times_numbered q []) x_role in omega arith in
    record {
      made = r.made + 1;
      maker_seat = r.maker_seat;
      some_seats = r.some_seats;
      small = r.small;
      wide = r.wide;
      room = let a = same busy_in refl refl in let b = r.room in omega arith;
      inside = let a = same within_in refl refl in let b = r.inside in omega arith;
      behind = λ i l. let a = same (reaches_in i) refl refl in let b = r.behind i l in omega arith;
      bits = λ i l. let a = same (owns_in i) refl refl in let b = r.bits i l in (omega arith, omega arith);
      slots = λ i l. let e = same (is_out_in i) refl refl in ⊎_elim (λ (h : IsHome v.seats s.homes s.views i). inl (e ∙ h.0, h.1)) (λ (h : IsAway v.seats s.homes s.views i). inr (e ∙ h.0, h.1)) (r.slots i l);
      books = λ f. let a = same (fast_in f) refl refl in let b = same (kept_in f) refl refl in let c = r.books f in omega arith;
      few = omega arith;
      weights = let t = total_is (weight n) in let d = r.weights in
          let a : weight n v ≡ n - k = ap (weigh n (length v.joined)) is in let b : weight n w ≡ n - (r.made + 1) = ap (weigh n (length v.joined)) w_role in
          let e : weight n x ≡ 1 = ap (weigh n 0) x_role in omega arith;
      dealt = λ q near. let m = one_more q in ⊎_elim
          (λ (e : q ≡ r.made). let z = r.undealt q (omega arith) in let h : times q (r.made ∷ []) ≡ times q (q ∷ []) = ap (λ (y : ℕ). times q (y ∷ [])) (sym e) in let g = times_head q [] in omega arith)
          (λ (o : q ≢ r.made). let z = r.dealt q (omega arith) in let h = times_other q r.made [] (λ e. o (sym e)) in omega arith) (same_or q r.made);
      undealt = λ q far. let m = one_more q in let z = r.undealt q (omega arith) in let h = times_other q r.made [] (λ e. omega arith) in omega arith;
      maker = (w, ap (get_elem? views') (sym known.seat_is) ∙ at_longer (set s.views id w) (x ∷ []) id w (set_at s.views id v w at), w_role);
      each = each_snoc K (set s.views id w) x (subst (λ (z : ℕ). K z x) (sym (length-set s.views id w)) here)
          (each_set K s.views id w there (λ j d other e. others_dealt v.seats r.made r.maker_seat j d d.role (λ z. other (z ∙ sym known.seat_is)) (r.each j d e)));
    }
