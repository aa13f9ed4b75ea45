-- The loop that opens the desks and deals their passes.
use Rattle.std.proofs.Common.{◌≡◌, ℕ, ◌+◌, ◌<◌, ◌≤◌, List, [], ◌∷◌, ◌++◌, map, length, get_or, All, EachIndex, refl, sym, ap, ◌∙◌, subst, arith, below_more, length-append, set, take, drop, append-nil, ◌≢◌, Vec, vec_len, vec_capacity, slice_get, Some}
use mathlib.Core.Logic.{dite}
use native.Mathlib.Decide.{dec_le}
use Rattle.std.proofs.lemmas.List.{at_drop_all, get_or-map, get_or-set_other, get_or-set_same, get_or_append_left, get_or_default, get_or_push, length-map, length-set, map_push, take_all}
use Rattle.std.proofs.lemmas.Option.{get_or_from_slice_get}
use Rattle.feature_desk.specs.Closings.{Rests}
use Rattle.feature_desk.specs.Sitters.{DeskView, IsOf, Sitter, newcomer}
use Rattle.feature_lines.specs.declared.pool.Pool.{Pool}
use Rattle.options_text.specs.Options.{OptionsFile}
use Rattle.licence_office.proofs.Ends.{ends_more}
use Rattle.licence_office.specs.declared.logs.DeskEnd.{DeskEnd}
use Rattle.licence_office.specs.Dealing.{IsHanded}
use Rattle.licence_office.specs.Offices.{AreAt, AreDealt, IsDeskFor}
use Rattle.licence_office.specs.Rooms.{AreEnds, IsEndOf}

-- the desks of the first i pools were opened, and their passes dealt
pub record AreOpened {Z : Type 0} (sets : List OptionsFile) (n : ℕ) (pools : List Pool) (i : ℕ) (desks : List DeskView) (ends : List DeskEnd) (parties : List (Vec Sitter Z)) : Type 0 where
  pub many : length parties ≡ n
  pub count : length desks ≡ i
  pub desks_for : (j : ℕ) (p : Pool) (d : DeskView) → j < i → IsDeskFor sets n (get_or pools j p) (get_or desks j d)
  pub dealt : AreDealt desks parties
  pub ends_are : AreEnds n desks ends
  pub rooms : (k : ℕ) (v : Vec Sitter Z) → k < length parties → length pools ≤ vec_capacity (get_or parties k v)

-- whoever has asked nothing holds no seat
newcomers_at : (desks : List DeskView) (k : ℕ) → AreAt desks (map (λ (d : DeskView). newcomer d k) desks)
newcomers_at desks k = record {
  long = length-map desks (λ (d : DeskView). newcomer d k);
  each = λ j s d lt. subst (λ (z : Sitter). IsOf z (get_or desks j d) × Rests z) (sym (get_or-map (λ (x : DeskView). newcomer x k) desks j d s lt)) (record { lock = refl; law = refl; seats = refl }, refl);
}

module _ {Z : Type 0} where
  module _ (sets : List OptionsFile) (n : ℕ) (pools : List Pool) (i : ℕ) (desks : List DeskView) (ends : List DeskEnd) (old : List (Vec Sitter Z)) (opened : AreOpened sets n pools i desks ends old) where
    pub has_room : i < length pools → All (λ (p : Vec Sitter Z). vec_len p < vec_capacity p) old
    has_room lt k v within =
        let p : Vec Sitter Z = get_or old k v in
        let items : length p.items ≡ length desks = ap length (opened.dealt k v within) ∙ length-map desks (λ (d : DeskView). newcomer d k) in
        let room : length pools ≤ vec_capacity p = opened.rooms k v within in
        let count = opened.count in let ok = p.ok.0 in
        omega (arith, lt, items, room, count, ok)

    module _ (pool : Pool) (d : DeskView) (e : DeskEnd) (passes : List Sitter) (new : List (Vec Sitter Z)) where
      one_desk_more : i < length pools → pool ≡ get_or pools i pool → IsDeskFor sets n pool d → (j : ℕ) (p : Pool) (x : DeskView) → j < i + 1 → IsDeskFor sets n (get_or pools j p) (get_or (desks ++ d ∷ []) j x)
      one_desk_more lt is one j p x within =
          below_more (λ (k : ℕ). (q : Pool) (y : DeskView) → IsDeskFor sets n (get_or pools k q) (get_or (desks ++ d ∷ []) k y)) i
          (λ k near q y. subst (IsDeskFor sets n (get_or pools k q)) (sym (get_or_append_left desks (d ∷ []) y k (let c = opened.count in omega (arith, near, c)))) (opened.desks_for k q y near))
          (λ q y. subst (IsDeskFor sets n (get_or pools i q)) (sym (get_or_push desks d y i opened.count))
          (subst (λ (z : Pool). IsDeskFor sets n z d) (is ∙ get_or_default pools i pool q lt) one))
          j within p x

      dealt_more : length passes ≡ n → EachIndex passes (λ k. slice_get passes k ≡ Some (newcomer d k)) → IsHanded passes old new 0 → AreDealt (desks ++ d ∷ []) new
      dealt_more count fresh handed k v within =
          let at : k < length old = (let s = handed.same in omega (arith, s, within)) in
          let in_passes : k < length passes = (let m = opened.many in omega (arith, at, count, m)) in
          let one : get_or passes k (newcomer d k) ≡ newcomer d k = get_or_from_slice_get passes k (newcomer d k) (newcomer d k) (fresh k in_passes) in
          handed.handed k v (newcomer d k) (omega arith) at ∙ ((λ t. opened.dealt k v at t ++ one t ∷ []) ∙ sym (map_push (λ (x : DeskView). newcomer x k) desks d))

      pub opened_more : i < length pools → pool ≡ get_or pools i pool → IsDeskFor sets n pool d → length passes ≡ n → EachIndex passes (λ k. slice_get passes k ≡ Some (newcomer d k)) → IsHanded passes old new 0 → IsEndOf n d e
          → AreOpened sets n pools (i + 1) (desks ++ d ∷ []) (ends ++ e ∷ []) new
      opened_more lt is one count fresh handed end = record {
        many = handed.same ∙ opened.many;
        count = (let l = length-append desks (d ∷ []) in let c = opened.count in omega (arith, l, c));
        desks_for = one_desk_more lt is one;
        dealt = dealt_more count fresh handed;
        ends_are = ends_more n desks ends d e opened.ends_are end;
        rooms = λ k v within. (let s = handed.same in let r = handed.room k v in let o = opened.rooms k v (omega (arith, s, within)) in omega (arith, r, o));
      }

  pub dealt_are_at : (desks : List DeskView) (parties : List (Vec Sitter Z)) → AreDealt desks parties → All (λ (p : Vec Sitter Z). AreAt desks p.items) parties
  dealt_are_at desks parties dealt k v lt = subst (AreAt desks) (sym (dealt k v lt)) (newcomers_at desks k)

-- a list that was lent whole and came back as another of its length
pub whole_again : {X : Type 0} (new items : List X) (n : ℕ) → n ≡ length items → length new ≡ length items → take n (new ++ drop (length new) items) ≡ new
whole_again new items n count same = ap (take n) (at_drop_all (λ (z : List _). new ++ z) items (length new) (omega (arith, same)) ∙ append-nil new) ∙ take_all n new (omega (arith, count, same))

-- the same desks of the same pools, by other names
pub same_desks : (sets : List OptionsFile) (n m : ℕ) (pools same : List Pool) (desks again : List DeskView) → n ≡ m → pools ≡ same → desks ≡ again
    → ((j : ℕ) (p : Pool) (d : DeskView) → j < length pools → IsDeskFor sets n (get_or pools j p) (get_or desks j d))
    → (j : ℕ) (p : Pool) (d : DeskView) → j < length same → IsDeskFor sets m (get_or same j p) (get_or again j d)
same_desks sets n m pools same desks again count is are each =
    subst (λ (k : ℕ). (j : ℕ) (p : Pool) (d : DeskView) → j < length same → IsDeskFor sets k (get_or same j p) (get_or again j d)) count
    (subst (λ (ps : List Pool). (j : ℕ) (p : Pool) (d : DeskView) → j < length ps → IsDeskFor sets n (get_or ps j p) (get_or again j d)) is
    (subst (λ (ds : List DeskView). (j : ℕ) (p : Pool) (d : DeskView) → j < length pools → IsDeskFor sets n (get_or pools j p) (get_or ds j d)) are each))

-- one more party got its pass
module _ {Z : Type 0} (passes : List Sitter) (old now : List (Vec Sitter Z)) (from to at : ℕ) (u pushed : Vec Sitter Z) (x : Sitter) where
  pub handed_more : IsHanded passes old now from → from ≡ to + 1 → at ≡ to → to < length now → pushed.items ≡ (get_or now at u).items ++ x ∷ [] → vec_capacity pushed ≡ vec_capacity (get_or now at u) → ((s : Sitter) → x ≡ get_or passes to s)
      → IsHanded passes old (set now at pushed) to
  handed_more h next place within items room last =
      let here_is : (v : Vec Sitter Z) → get_or now at u ≡ get_or now to v = λ v. ap (λ (k : ℕ). get_or now k u) place ∙ get_or_default now to u v within in
      let changed : (v : Vec Sitter Z) → get_or (set now at pushed) to v ≡ pushed
      = λ v. ap (λ (k : ℕ). get_or (set now k pushed) to v) place ∙ get_or-set_same now to pushed v within in
      let kept : (k : ℕ) (v : Vec Sitter Z) → k ≢ to → get_or (set now at pushed) k v ≡ get_or now k v = λ k v other. get_or-set_other now at k pushed v (λ e. other (e ∙ place)) in
      let mine : (v : Vec Sitter Z) (s : Sitter) → (get_or (set now at pushed) to v).items ≡ (get_or old to v).items ++ get_or passes to s ∷ []
      = λ v s. ap (λ (p : Vec Sitter Z). p.items) (changed v) ∙ (items ∙ (λ i. (ap (λ (p : Vec Sitter Z). p.items) (here_is v ∙ h.others to v (omega (arith, next))) i) ++ last s i ∷ [])) in
      let mine_room : (v : Vec Sitter Z) → vec_capacity (get_or (set now at pushed) to v) ≡ vec_capacity (get_or old to v)
      = λ v. ap (λ (p : Vec Sitter Z). vec_capacity p) (changed v) ∙ (room ∙ (ap (λ (p : Vec Sitter Z). vec_capacity p) (here_is v) ∙ h.room to v)) in
      record {
        same = length-set now at pushed ∙ h.same;
        handed = λ k v s le lt.
            dite (dec_le (to + 1) k) (λ above. ap (λ (p : Vec Sitter Z). p.items) (kept k v (λ e. omega (arith, e, above))) ∙ h.handed k v s (omega (arith, next, above)) lt)
            (λ near. let e : to ≡ k = omega (arith, near, le) in subst (λ (i : ℕ). (get_or (set now at pushed) i v).items ≡ (get_or old i v).items ++ get_or passes i s ∷ []) e (mine v s));
        others = λ k v lt. kept k v (λ e. omega (arith, e, lt)) ∙ h.others k v (omega (arith, lt, next));
        room = λ k v.
            dite (dec_le (to + 1) k) (λ above. ap (λ (p : Vec Sitter Z). vec_capacity p) (kept k v (λ e. omega (arith, e, above))) ∙ h.room k v)
            (λ near.
            dite (dec_le to k) (λ below. let e : to ≡ k = omega (arith, near, below) in subst (λ (i : ℕ). vec_capacity (get_or (set now at pushed) i v) ≡ vec_capacity (get_or old i v)) e (mine_room v))
            (λ far. ap (λ (p : Vec Sitter Z). vec_capacity p) (kept k v (λ e. omega (arith, e, far))) ∙ h.room k v));
      }
