-- A list cut into parts by party: what the parts count for together.
use Rattle.std.proofs.Common.{◌≡◌, ℕ, suc, ◌+◌, ◌≤◌, Bool, cond, List, [], ◌∷◌, filter, sum_by, eqb, eq-eqb, ne_eqb, refl, sym, ◌∙◌, ap, arith, All}
use mathlib.Core.Logic.{dite}
use native.Mathlib.Decide.{dec_le}
use Rattle.std.proofs.lemmas.List.Sums.{sum_by-cons}
use Rattle.turn_lock.proofs.Apart.{with_number, number_cons, it_or_not}

module _ {X : Type 0} where
  pub sums_same : (f g : X → ℕ) (xs : List X) → All (λ x. f x ≡ g x) xs → sum_by f xs ≡ sum_by g xs
  sums_same f g [] each = refl
  sums_same f g (x ∷ xs) each = let a = sum_by-cons f x xs in let b = sum_by-cons g x xs in let e = each 0 x (omega arith) in
      let r = sums_same f g xs (λ k d lt. each (suc k) d (omega (arith, lt))) in omega (arith, a, b, e, r)

module _ {X E : Type 0} (number : X → ℕ) (party : E → ℕ) (f : E → ℕ) where
  -- the entries of one party
  abbrev pub part : ℕ → List E → List E
  part q h = filter (λ e. eqb (party e) q) h

  -- what the entries of all members' parties count for
  abbrev pub parts : List X → List E → ℕ
  parts xs h = sum_by (λ x. sum_by f (part (number x) h)) xs

  part_its : (e : E) (h : List E) (q : ℕ) → party e ≡ q → part q (e ∷ h) ≡ e ∷ part q h
  part_its e h q same = ap (λ (b : Bool). cond b (e ∷ part q h) (part q h)) (eq-eqb (party e) q same)

  part_else : (e : E) (h : List E) (q : ℕ) → (party e ≡ q → ⊥) → part q (e ∷ h) ≡ part q h
  part_else e h q other = ap (λ (b : Bool). cond b (e ∷ part q h) (part q h)) (ne_eqb (party e) q other)

  parts_cons : (x : X) (xs : List X) (h : List E) → parts (x ∷ xs) h ≡ sum_by f (part (number x) h) + parts xs h
  parts_cons x xs h = sum_by-cons (λ y. sum_by f (part (number y) h)) x xs

  -- an entry of nobody's
  parts_none : (xs : List X) (e : E) (h : List E) → with_number number (party e) xs ≡ 0 → parts xs (e ∷ h) ≡ parts xs h
  parts_none [] e h none = refl
  parts_none (x ∷ xs) e h none = let c = number_cons number (party e) x xs in let a = parts_cons x xs (e ∷ h) in let b = parts_cons x xs h in
      let r = parts_none xs e h (omega (arith, none, c)) in
      it_or_not number (party e) (number x) (λ _ one. absurd (omega (arith, none, c, one))) (λ other _. let s = ap (sum_by f) (part_else e h (number x) other) in omega (arith, a, b, r, s))

  -- an entry of one member's party
  parts_one : (xs : List X) (e : E) (h : List E) → with_number number (party e) xs ≡ 1 → parts xs (e ∷ h) ≡ f e + parts xs h
  parts_one [] e h one = absurd (omega (arith, one))
  parts_one (x ∷ xs) e h one = let c = number_cons number (party e) x xs in let a = parts_cons x xs (e ∷ h) in let b = parts_cons x xs h in
      it_or_not number (party e) (number x)
      (λ same its. let s = ap (sum_by f) (part_its e h (number x) same) in let t = sum_by-cons f e (part (number x) h) in let r = parts_none xs e h (omega (arith, one, c, its)) in omega (arith, a, b, r, s, t))
      (λ other none. let s = ap (sum_by f) (part_else e h (number x) other) in let r = parts_one xs e h (omega (arith, one, c, none)) in omega (arith, a, b, r, s))

  parts_empty : (xs : List X) → parts xs [] ≡ 0
  parts_empty [] = refl
  parts_empty (x ∷ xs) = let a = parts_cons x xs [] in let r = parts_empty xs in omega (arith, a, r)

  -- where each party with an entry has one member, the parts count for what the whole counts for
  pub parts_whole : (xs : List X) (h : List E) → ((q : ℕ) → with_number number q xs ≤ 1) → ((q : ℕ) → with_number number q xs ≡ 0 → part q h ≡ []) → parts xs h ≡ sum_by f h
  parts_whole xs [] few theirs = parts_empty xs
  parts_whole xs (e ∷ h) few theirs =
      let t = sum_by-cons f e h in
      let one : with_number number (party e) xs ≡ 1 = dite (dec_le 1 (with_number number (party e) xs)) (λ l. let s = few (party e) in omega (arith, l, s))
      (λ l. absurd (let z : e ∷ part (party e) h ≡ [] = sym (part_its e h (party e) refl) ∙ theirs (party e) (omega (arith, l)) in cc)) in
      let r = parts_whole xs h few (λ q none. it_or_not number (party e) q (λ same _. absurd (let z : e ∷ part q h ≡ [] = sym (part_its e h q same) ∙ theirs q none in cc)) (λ other _. sym (part_else e h q other) ∙ theirs q none)) in
      let a = parts_one xs e h one in omega (arith, t, r, a)
