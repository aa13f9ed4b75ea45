-- What an order of deadlines keeps apart, and what lists in order are left with.
use Rattle.std.proofs.Common.{◌≡◌, ◌<◌, Bool, true, false, cond, not, List, [], ◌∷◌, ◌++◌, Some, None, length, filter, find, IsTrue, refl, sym, ap, ◌∙◌, true≢false, arith, length-append}
use Rattle.std.proofs.lemmas.Bool.Decides.{nat_tests}
use Rattle.linger_clock.specs.declared.Deadline.{Deadline}
use Rattle.linger_clock.specs.declared.tree.Order.{Order}
use Rattle.linger_clock.specs.declared.tree.Order.TheVariants.{ByMoment, ByOwner}
use Rattle.linger_clock.specs.Ranks.{comes_before, ties, AllFollow, IsRanked, ranked_in}

pub follows_on : (o : Order) (a b c : Deadline) → IsTrue (comes_before o a b) → IsTrue (comes_before o b c) → IsTrue (comes_before o a c)
follows_on ByMoment a b c h k = grind (arith, nat_tests)
follows_on ByOwner a b c h k = grind (arith, nat_tests)

pub not_back : (o : Order) (a b : Deadline) → IsTrue (comes_before o a b) → comes_before o b a ≡ false
not_back ByMoment a b h = grind (arith, nat_tests)
not_back ByOwner a b h = grind (arith, nat_tests)

-- what comes before one of two that tie comes before the other
pub before_tied : (o : Order) (p k e : Deadline) → IsTrue (ties o p k) → IsTrue (comes_before o e k) → IsTrue (comes_before o e p)
before_tied ByMoment p k e h b = grind (arith, nat_tests)
before_tied ByOwner p k e h b = grind (arith, nat_tests)

pub after_tied : (o : Order) (p k e : Deadline) → IsTrue (ties o p k) → IsTrue (comes_before o k e) → IsTrue (comes_before o p e)
after_tied ByMoment p k e h b = grind (arith, nat_tests)
after_tied ByOwner p k e h b = grind (arith, nat_tests)

module _ (o : Order) where
  pub no_tie_before : (p e : Deadline) → IsTrue (comes_before o e p) → ties o p e ≡ false
  no_tie_before p e h = rw (h, not_back o e p h) refl

  pub no_tie_after : (p e : Deadline) → IsTrue (comes_before o p e) → ties o p e ≡ false
  no_tie_after p e h = rw h refl

  middle : (y : Deadline) (t : List Deadline) (k : Deadline) (r : List Deadline) → AllFollow o y (t ++ k ∷ r) → IsTrue (comes_before o y k)
  middle y [] k r a = a.0
  middle y (x ∷ t) k r a = middle y t k r a.1

  front_follows : (y : Deadline) (l m : List Deadline) → AllFollow o y (l ++ m) → AllFollow o y l
  front_follows y [] m a = tt
  front_follows y (x ∷ l) m a = (a.0, front_follows y l m a.1)

  pub ranked_front : (l m : List Deadline) → IsRanked o (l ++ m) → IsRanked o l
  ranked_front [] m s = tt
  ranked_front (x ∷ l) m s = (front_follows x l m s.0, ranked_front l m s.1)

  pub ranked_back : (l : List Deadline) (k : Deadline) (r : List Deadline) → IsRanked o (l ++ k ∷ r) → IsRanked o r
  ranked_back [] k r s = s.1
  ranked_back (x ∷ l) k r s = ranked_back l k r s.1

  pub after_middle : (l : List Deadline) (k : Deadline) (r : List Deadline) → IsRanked o (l ++ k ∷ r) → AllFollow o k r
  after_middle [] k r s = s.0
  after_middle (x ∷ l) k r s = after_middle l k r s.1

  -- what follows k follows what comes before k
  pub follow_before : (p k : Deadline) (ds : List Deadline) → IsTrue (comes_before o p k) → AllFollow o k ds → AllFollow o p ds
  follow_before p k [] h a = tt
  follow_before p k (e ∷ es) h a = (follows_on o p k e h a.0, follow_before p k es h a.1)

  follow_tied : (p k : Deadline) (ds : List Deadline) → IsTrue (ties o p k) → AllFollow o k ds → AllFollow o p ds
  follow_tied p k [] h a = tt
  follow_tied p k (e ∷ es) h a = (after_tied o p k e h a.0, follow_tied p k es h a.1)

  find_after : (p : Deadline) (ds : List Deadline) → AllFollow o p ds → find (ties o p) ds ≡ None
  find_after p [] a = refl
  find_after p (e ∷ es) a = rw (no_tie_after p e a.0) (find_after p es a.1)

  filter_after : (p : Deadline) (ds : List Deadline) → AllFollow o p ds → filter (λ d. not (ties o p d)) ds ≡ ds
  filter_after p [] a = refl
  filter_after p (e ∷ es) a = rw (no_tie_after p e a.0) (ap (λ xs. e ∷ xs) (filter_after p es a.1))

  -- a search goes to one side of k
  pub find_left : (p : Deadline) (l : List Deadline) (k : Deadline) (r : List Deadline) → IsRanked o (l ++ k ∷ r) → IsTrue (comes_before o p k) → find (ties o p) (l ++ k ∷ r) ≡ find (ties o p) l
  find_left p [] k r s h = rw (no_tie_after p k h) (find_after p r (follow_before p k r h s.0))
  find_left p (y ∷ t) k r s h = ap (λ v. cond (ties o p y) (Some y) v) (find_left p t k r s.1 h)

  pub find_right : (p : Deadline) (l : List Deadline) (k : Deadline) (r : List Deadline) → IsRanked o (l ++ k ∷ r) → IsTrue (comes_before o k p) → find (ties o p) (l ++ k ∷ r) ≡ find (ties o p) r
  find_right p [] k r s h = rw (no_tie_before p k h) refl
  find_right p (y ∷ t) k r s h = rw (no_tie_before p y (follows_on o y k p (middle y t k r s.0) h)) (find_right p t k r s.1 h)

  pub find_top : (p : Deadline) (l : List Deadline) (k : Deadline) (r : List Deadline) → IsRanked o (l ++ k ∷ r) → IsTrue (ties o p k) → find (ties o p) (l ++ k ∷ r) ≡ Some k
  find_top p [] k r s h = rw h refl
  find_top p (y ∷ t) k r s h = rw (no_tie_before p y (before_tied o p k y h (middle y t k r s.0))) (find_top p t k r s.1 h)

  -- so does a removal
  pub taken_left : (p : Deadline) (l : List Deadline) (k : Deadline) (r : List Deadline) → IsRanked o (l ++ k ∷ r) → IsTrue (comes_before o p k) → filter (λ d. not (ties o p d)) (l ++ k ∷ r) ≡ filter (λ d. not (ties o p d)) l ++ k ∷ r
  taken_left p [] k r s h = rw (no_tie_after p k h) (ap (λ xs. k ∷ xs) (filter_after p r (follow_before p k r h s.0)))
  taken_left p (y ∷ t) k r s h =
      elim (ties o p y) as (λ b. cond (not b) (y ∷ filter (λ d. not (ties o p d)) (t ++ k ∷ r)) (filter (λ d. not (ties o p d)) (t ++ k ∷ r)) ≡ cond (not b) (y ∷ filter (λ d. not (ties o p d)) t) (filter (λ d. not (ties o p d)) t) ++ k ∷ r) [
        | true ↦ taken_left p t k r s.1 h
        | false ↦ ap (λ xs. y ∷ xs) (taken_left p t k r s.1 h)
      ]

  pub taken_right : (p : Deadline) (l : List Deadline) (k : Deadline) (r : List Deadline) → IsRanked o (l ++ k ∷ r) → IsTrue (comes_before o k p) → filter (λ d. not (ties o p d)) (l ++ k ∷ r) ≡ l ++ k ∷ filter (λ d. not (ties o p d)) r
  taken_right p [] k r s h = rw (no_tie_before p k h) refl
  taken_right p (y ∷ t) k r s h = rw (no_tie_before p y (follows_on o y k p (middle y t k r s.0) h)) (ap (λ xs. y ∷ xs) (taken_right p t k r s.1 h))

  pub taken_top : (p : Deadline) (l : List Deadline) (k : Deadline) (r : List Deadline) → IsRanked o (l ++ k ∷ r) → IsTrue (ties o p k) → filter (λ d. not (ties o p d)) (l ++ k ∷ r) ≡ l ++ r
  taken_top p [] k r s h = rw h (filter_after p r (follow_tied p k r h s.0))
  taken_top p (y ∷ t) k r s h = rw (no_tie_before p y (before_tied o p k y h (middle y t k r s.0))) (ap (λ xs. y ∷ xs) (taken_top p t k r s.1 h))

  -- a new deadline goes to one side of k
  pub ranked_in_left : (d : Deadline) (l : List Deadline) (k : Deadline) (r : List Deadline) → IsTrue (comes_before o d k) → ranked_in o d (l ++ k ∷ r) ≡ ranked_in o d l ++ k ∷ r
  ranked_in_left d [] k r h = rw h refl
  ranked_in_left d (y ∷ t) k r h =
      elim (comes_before o d y) as (λ b. cond b (d ∷ y ∷ (t ++ k ∷ r)) (y ∷ ranked_in o d (t ++ k ∷ r)) ≡ cond b (d ∷ y ∷ t) (y ∷ ranked_in o d t) ++ k ∷ r) [
        | true ↦ refl
        | false ↦ ap (λ xs. y ∷ xs) (ranked_in_left d t k r h)
      ]

  pub ranked_in_right : (d : Deadline) (l : List Deadline) (k : Deadline) (r : List Deadline) → IsRanked o (l ++ k ∷ r) → comes_before o d k ≡ false → ranked_in o d (l ++ k ∷ r) ≡ l ++ k ∷ ranked_in o d r
  ranked_in_right d [] k r s h = rw h refl
  ranked_in_right d (y ∷ t) k r s h = rw (later (middle y t k r s.0) (comes_before o d y) refl) (ap (λ xs. y ∷ xs) (ranked_in_right d t k r s.1 h))
    where
      later : IsTrue (comes_before o y k) → (b : Bool) → comes_before o d y ≡ b → comes_before o d y ≡ false
      later before true e = absurd (true≢false (sym (follows_on o d y k e before) ∙ h))
      later before false e = e

  pub sides_shorter : (l : List Deadline) (k : Deadline) (r : List Deadline) → (length l < length (l ++ k ∷ r)) × (length r < length (l ++ k ∷ r))
  sides_shorter l k r = omega (arith, length-append l (k ∷ r))
