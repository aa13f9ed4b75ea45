use Rattle.std.proofs.Common.{◌≡◌, ℕ, ◌+◌, ◌<◌, ◌≤◌, true, false, cond, eqb, List, [], ◌∷◌, length, map, get_or, zero, suc, arith, refl, sym, subst, ◌∙◌}
use Rattle.std.specs.List.{count_by}
use Rattle.std.specs.List.Sorted.{IsStrictlyIncreasing}
use Rattle.std.proofs.lemmas.Bool.{eqb-true}
use Rattle.std.proofs.lemmas.List.Sums.{sum_by-cons}
use Rattle.options_text.specs.Rises.{AreRising, Rises}

-- they rise from any lower number too
pub rises_from_below : (m n : ℕ) (xs : List ℕ) → m ≤ n → Rises n xs → Rises m xs
rises_from_below m n [] h r = tt
rises_from_below m n (x ∷ xs) h r = (omega (arith, r.0), r.1)

pub rises_at : (n : ℕ) (xs : List ℕ) → Rises n xs → (k : ℕ) → k + 1 < length xs → get_or xs k 0 < get_or xs (k + 1) 0
rises_at n [] r k h = absurd (omega arith)
rises_at n (x ∷ []) r k h = absurd (omega arith)
rises_at n (x ∷ y ∷ zs) r zero h = r.1.0
rises_at n (x ∷ y ∷ zs) r (suc k) h =
    let P : ℕ → Type 0 = λ j. get_or (y ∷ zs) k 0 < get_or (x ∷ y ∷ zs) j 0 in
    let e : suc (k + 1) ≡ suc k + 1 = omega arith in
    subst P e (rises_at x (y ∷ zs) r.1 k (omega arith))

-- numbers that rise are strictly increasing
pub increasing : (n : ℕ) (xs : List ℕ) → Rises n xs → IsStrictlyIncreasing xs
increasing n xs r = rises_at n xs r

increasing_rest : (x : ℕ) (xs : List ℕ) → IsStrictlyIncreasing (x ∷ xs) → IsStrictlyIncreasing xs
increasing_rest x xs i k h =
    let P : ℕ → Type 0 = λ j. get_or xs k 0 < get_or (x ∷ xs) j 0 in
    let e : suc k + 1 ≡ suc (k + 1) = omega arith in
    subst P e (i (suc k) (omega arith))

-- strictly increasing numbers rise
pub rising : (x : ℕ) (xs : List ℕ) → IsStrictlyIncreasing (x ∷ xs) → Rises x xs
rising x [] i = tt
rising x (y ∷ ys) i = (i 0 (omega arith), rising y ys (increasing_rest x (y ∷ ys) i))

none_above : {X : Type 0} (key : X → ℕ) (n m : ℕ) (xs : List X) → m ≤ n → Rises n (map key xs) → count_by (λ x. eqb (key x) m) xs ≡ 0
none_above key n m [] h r = refl
none_above key n m (x ∷ xs) h r =
    let others : count_by (λ y. eqb (key y) m) xs ≡ 0 = none_above key (key x) m xs (omega (arith, r.0)) r.1 in
    let all : cond (eqb (key x) m) 1 0 + count_by (λ y. eqb (key y) m) xs ≡ 0 =
    (elim (eqb (key x) m) as (λ b. eqb (key x) m ≡ b → cond b 1 0 + count_by (λ y. eqb (key y) m) xs ≡ 0) [
      | true ↦ λ e. absurd (omega (arith, eqb-true _ _ e, r.0))
      | false ↦ λ e. omega arith
    ] refl)
    in sum_by-cons (λ y. cond (eqb (key y) m) 1 0) x xs ∙ all

one_ahead : {X : Type 0} (key : X → ℕ) (m : ℕ) (x : X) (xs : List X) → Rises (key x) (map key xs) → count_by (λ y. eqb (key y) m) xs ≤ 1 → count_by (λ y. eqb (key y) m) (x ∷ xs) ≤ 1
one_ahead key m x xs r others =
    let all : cond (eqb (key x) m) 1 0 + count_by (λ y. eqb (key y) m) xs ≤ 1 =
    (elim (eqb (key x) m) as (λ b. eqb (key x) m ≡ b → cond b 1 0 + count_by (λ y. eqb (key y) m) xs ≤ 1) [
      | true ↦ λ e. omega (arith, none_above key (key x) m xs (omega (arith, eqb-true _ _ e)) r)
      | false ↦ λ e. omega arith
    ] refl)
    in let P : ℕ → Type 0 = λ n. n ≤ 1 in subst P (sym (sum_by-cons (λ y. cond (eqb (key y) m) 1 0) x xs)) all

one_of_rising : {X : Type 0} (key : X → ℕ) (m n : ℕ) (xs : List X) → Rises n (map key xs) → count_by (λ x. eqb (key x) m) xs ≤ 1
one_of_rising key m n [] r = omega arith
one_of_rising key m n (x ∷ xs) r = one_ahead key m x xs r.1 (one_of_rising key m (key x) xs r.1)

-- of those whose keys increase, at most one has any key
pub once : {X : Type 0} (key : X → ℕ) (m : ℕ) (xs : List X) → IsStrictlyIncreasing (map key xs) → count_by (λ x. eqb (key x) m) xs ≤ 1
once key m [] i = omega arith
once key m (x ∷ xs) i =
    let rest : Rises (key x) (map key xs) = rising (key x) (map key xs) i in
    one_ahead key m x xs rest (one_of_rising key m (key x) xs rest)

-- numbers that rise above one rise among themselves
pub rising_rest : (x : ℕ) (xs : List ℕ) → Rises x xs → AreRising xs
rising_rest x [] r = tt
rising_rest x (y ∷ ys) r = r.1

-- strictly increasing numbers rise
pub all_rising : (xs : List ℕ) → IsStrictlyIncreasing xs → AreRising xs
all_rising [] i = tt
all_rising (x ∷ xs) i = rising x xs i
