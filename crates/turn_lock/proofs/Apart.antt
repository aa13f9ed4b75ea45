-- How many members of a list have a number.
use Rattle.std.proofs.Common.{◌≡◌, ◌≢◌, ℕ, zero, suc, ◌+◌, ◌≤◌, Bool, true, false, cond, List, [], ◌∷◌, ◌++◌, map, count_by, eqb, eq-eqb, ne_eqb, refl, sym, ap, arith, All}
use mathlib.Core.Logic.{dite}
use mathlib.Core.Option.{some}
use native.Mathlib.Decide.{dec_le}
use lib.ListN.{get_elem?}
use Rattle.std.proofs.lemmas.Bool.{eqb-true, eqb-false}
use Rattle.std.proofs.lemmas.List.Sums.{sum_by-cons, sum_by-append}

module _ {X : Type 0} (number : X → ℕ) where
  -- how many have the number q
  abbrev pub with_number : ℕ → List X → ℕ
  with_number q xs = count_by (λ x. eqb q (number x)) xs

  -- 1 where the number is q, else 0
  abbrev pub is_it : ℕ → ℕ → ℕ
  is_it q m = cond (eqb q m) 1 0

  pub number_cons : (q : ℕ) (x : X) (xs : List X) → with_number q (x ∷ xs) ≡ is_it q (number x) + with_number q xs
  number_cons q x xs = sum_by-cons (λ y. cond (eqb q (number y)) 1 0) x xs

  pub number_append : (q : ℕ) (xs ys : List X) → with_number q (xs ++ ys) ≡ with_number q xs + with_number q ys
  number_append q xs ys = sum_by-append (λ y. cond (eqb q (number y)) 1 0) xs ys

  pub it_is : (q m : ℕ) → q ≡ m → is_it q m ≡ 1
  it_is q m same = ap (λ (b : Bool). cond {A = ℕ} b 1 0) (eq-eqb q m same)

  pub it_is_not : (q m : ℕ) → q ≢ m → is_it q m ≡ 0
  it_is_not q m other = ap (λ (b : Bool). cond {A = ℕ} b 1 0) (ne_eqb q m other)

  -- either it is the number, or it isn't
  pub it_or_not : {C : Type 0} (q m : ℕ) → (q ≡ m → is_it q m ≡ 1 → C) → (q ≢ m → is_it q m ≡ 0 → C) → C
  it_or_not {C} q m then_ else_ = go (eqb q m) refl
    where
      go : (b : Bool) → eqb q m ≡ b → C
      go true e = then_ (eqb-true q m e) (it_is q m (eqb-true q m e))
      go false e = else_ (eqb-false q m e) (it_is_not q m (eqb-false q m e))

  -- one that has it, where some have
  pub found : (q : ℕ) (xs : List X) → 1 ≤ with_number q xs → (i : ℕ) × (x : X) × (get_elem? xs i ≡ some x) × (q ≡ number x)
  found q [] some_have = absurd (omega (arith, some_have))
  found q (x ∷ xs) some_have = let c = number_cons q x xs in
      it_or_not q (number x) (λ same _. (0, x, refl, same)) (λ _ none. let r = found q xs (omega (arith, some_have, c, none)) in (suc r.0, r.1, r.2, r.3))

  pub someone : (q : ℕ) (xs : List X) → with_number q xs ≡ 0 → All (λ x. number x ≢ q) xs
  someone q [] none k d lt = absurd (omega (arith, lt))
  someone q (x ∷ xs) none zero d lt = let c = number_cons q x xs in λ same. let one = it_is q (number x) (sym same) in absurd (omega (arith, c, none, one))
  someone q (x ∷ xs) none (suc k) d lt = let c = number_cons q x xs in someone q xs (omega (arith, c, none)) k d (omega (arith, lt))

  -- a number m and two lists, each with no number twice, none of which has one that another has
  pub once_in_both : (q m : ℕ) (xs ys : List X) → with_number q xs ≤ 1 → with_number q ys ≤ 1 → (q ≡ m → 1 ≤ with_number q xs → ⊥)
      → (1 ≤ with_number q ys → q ≢ m) → (1 ≤ with_number q ys → 1 ≤ with_number q xs → ⊥) → is_it q m + with_number q (xs ++ ys) ≤ 1
  once_in_both q m xs ys few_x few_y m_x y_m y_x = let c = number_append q xs ys in
      it_or_not q m
      (λ same one. let no_x : with_number q xs ≤ 0 = dite (dec_le 1 (with_number q xs)) (λ l. absurd (m_x same l)) (λ l. omega (arith, l)) in
      let no_y : with_number q ys ≤ 0 = dite (dec_le 1 (with_number q ys)) (λ l. absurd (y_m l same)) (λ l. omega (arith, l)) in omega (arith, one, no_x, no_y, c))
      (λ _ none. dite (dec_le 1 (with_number q ys))
      (λ l. let no_x : with_number q xs ≤ 0 = dite (dec_le 1 (with_number q xs)) (λ k. absurd (y_x l k)) (λ k. omega (arith, k)) in omega (arith, none, no_x, few_y, c))
      (λ l. omega (arith, none, few_x, l, c)))

-- a count over a list of images
pub number_map : {X Y : Type 0} (number : Y → ℕ) (f : X → Y) (q : ℕ) (xs : List X) → with_number number q (map f xs) ≡ with_number (λ x. number (f x)) q xs
number_map number f q [] = refl
number_map number f q (x ∷ xs) = let a = number_cons number q (f x) (map f xs) in let b = number_cons (λ y. number (f y)) q x xs in let r = number_map number f q xs in omega (arith, a, b, r)
