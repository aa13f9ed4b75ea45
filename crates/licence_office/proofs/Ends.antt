-- One end for each desk, in lists that grow and shrink at their ends.
use Rattle.std.proofs.Common.{◌≡◌, ℕ, List, [], ◌∷◌, ◌++◌, get_or, length, refl, sym, subst, arith, below_more, length-append}
use Rattle.std.proofs.lemmas.List.{get_or_append_left, get_or_push}
use Rattle.feature_desk.specs.Sitters.{DeskView}
use Rattle.licence_office.specs.declared.logs.DeskEnd.{DeskEnd}
use Rattle.licence_office.specs.Rooms.{AreEnds, IsEndOf}

pub ends_more : (n : ℕ) (desks : List DeskView) (ends : List DeskEnd) (d : DeskView) (e : DeskEnd) → AreEnds n desks ends → IsEndOf n d e → AreEnds n (desks ++ d ∷ []) (ends ++ e ∷ [])
ends_more n desks ends d e are one = record {
  many = (let a = length-append desks (d ∷ []) in let b = length-append ends (e ∷ []) in let m = are.many in omega (arith, a, b, m));
  each = λ j x y lt.
      (below_more (λ (k : ℕ). (u : DeskView) (w : DeskEnd) → IsEndOf n (get_or (desks ++ d ∷ []) k u) (get_or (ends ++ e ∷ []) k w)) (length desks)
      (λ k near u w. subst (λ (z : DeskView). IsEndOf n z (get_or (ends ++ e ∷ []) k w)) (sym (get_or_append_left desks (d ∷ []) u k near))
      (subst (IsEndOf n (get_or desks k u)) (sym (get_or_append_left ends (e ∷ []) w k (let m = are.many in omega (arith, near, m)))) (are.each k u w near)))
      (λ u w. subst (λ (z : DeskView). IsEndOf n z (get_or (ends ++ e ∷ []) (length desks) w)) (sym (get_or_push desks d u (length desks) refl))
      (subst (IsEndOf n d) (sym (get_or_push ends e w (length desks) are.many)) one))
      j (let a = length-append desks (d ∷ []) in omega (arith, a, lt)) x y);
}

pub ends_cut : (n : ℕ) (desks : List DeskView) (ends : List DeskEnd) (d : DeskView) (e : DeskEnd) → AreEnds n (desks ++ d ∷ []) (ends ++ e ∷ []) → AreEnds n desks ends × IsEndOf n d e
ends_cut n desks ends d e are =
    let many : length ends ≡ length desks = (let a = length-append desks (d ∷ []) in let b = length-append ends (e ∷ []) in let m = are.many in omega (arith, a, b, m)) in
    let last : IsEndOf n (get_or (desks ++ d ∷ []) (length desks) d) (get_or (ends ++ e ∷ []) (length desks) e) = are.each (length desks) d e (let a = length-append desks (d ∷ []) in omega (arith, a)) in (
      record {
        many = many;
        each = λ j u w lt.
            subst (λ (z : DeskView). IsEndOf n z (get_or ends j w)) (get_or_append_left desks (d ∷ []) u j lt)
            (subst (IsEndOf n (get_or (desks ++ d ∷ []) j u)) (get_or_append_left ends (e ∷ []) w j (omega (arith, lt, many))) (are.each j u w (let a = length-append desks (d ∷ []) in omega (arith, a, lt))));
      },
      subst (λ (z : DeskView). IsEndOf n z e) (get_or_push desks d d (length desks) refl)
          (subst (IsEndOf n (get_or (desks ++ d ∷ []) (length desks) d)) (get_or_push ends e e (length desks) many) last),
    )

-- the last desk with its end, and the others
pub ends_parted : (n : ℕ) (left rest : List DeskView) (ends others : List DeskEnd) (d : DeskView) (e : DeskEnd) → left ≡ rest ++ d ∷ [] → ends ≡ others ++ e ∷ [] → AreEnds n left ends → AreEnds n rest others × IsEndOf n d e
ends_parted n left rest ends others d e is was are =
    ends_cut n rest others d e (subst (λ (z : List DeskView). AreEnds n z (others ++ e ∷ [])) is (subst (AreEnds n left) was are))
