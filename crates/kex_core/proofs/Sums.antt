-- Sums over the numbers below a bound.
use Rattle.std.proofs.Common.{◌≡◌, ◌≢◌, ◌⊎◌, ℕ, zero, suc, ◌+◌, ◌<◌, ◌≤◌, Bool, true, false, cond, eqb, sym, refl, ap, ◌∙◌, subst, ⊎_elim, inl, inr, arith}
use Rattle.std.proofs.lemmas.Bool.Decides.{nat_tests}
use Rattle.std.proofs.lemmas.Bool.{eq-eqb}
use native.Mathlib.Decide.{ℕ_discrete}
use Rattle.kex_core.specs.Nets.{over}
use Rattle.kex_core.specs.Worlds.{put}
use Rattle.kex_core.proofs.Thresholds.{but}

pub same_or : (i j : ℕ) → (i ≡ j) ⊎ (i ≢ j)
same_or i j = go (ℕ_discrete i j)
  where
    go : Dec (i ≡ j) → (i ≡ j) ⊎ (i ≢ j)
    go (yes e) = inl e
    go (no d) = inr d

-- a choice, by its test
pub chosen : {X : Type 0} (P : X → Type 0) (b : Bool) (x y : X) → (b ≡ true → P x) → (b ≡ false → P y) → P (cond b x y)
chosen P true x y h k = h refl
chosen P false x y h k = k refl

pub ne_test : (i j : ℕ) → i ≢ j → eqb i j ≡ false
ne_test i j d = grind (arith, nat_tests)

pub ne_from : (i j : ℕ) → eqb i j ≡ false → i ≢ j
ne_from i j h e = cc (eq-eqb i j e)

pub over_le : (n : ℕ) (f g : ℕ → ℕ) → ((k : ℕ) → k < n → f k ≤ g k) → over n f ≤ over n g
over_le zero f g h = omega arith
over_le (suc n) f g h = let a : f n ≤ g n = h n (omega arith) in let b = over_le n f g (λ k l. h k (omega arith)) in omega arith

pub over_same : (n : ℕ) (f g : ℕ → ℕ) → ((k : ℕ) → k < n → f k ≡ g k) → over n f ≡ over n g
over_same zero f g h = refl
over_same (suc n) f g h = let a : f n ≡ g n = h n (omega arith) in let b = over_same n f g (λ k l. h k (omega arith)) in omega arith

pub over_add : (n : ℕ) (f g : ℕ → ℕ) → over n (λ k. f k + g k) ≡ over n f + over n g
over_add zero f g = omega arith
over_add (suc n) f g = let b = over_add n f g in omega arith

-- strictly, where one summand is
pub over_lt : (n : ℕ) (f g : ℕ → ℕ) (i : ℕ) → i < n → ((k : ℕ) → k < n → f k ≤ g k) → f i < g i → over n f + 1 ≤ over n g
over_lt zero f g i l h s = absurd (omega arith)
over_lt (suc n) f g i l h s = let a : f n ≤ g n = h n (omega arith) in ⊎_elim
    (λ (e : i ≡ n). let b = over_le n f g (λ k l. h k (omega arith)) in let t : f n < g n = subst (λ (k : ℕ). f k < g k) e s in omega arith)
    (λ (d : i ≢ n). let b = over_lt n f g i (omega arith) (λ k l. h k (omega arith)) s in omega arith) (same_or i n)

-- where all but one summand stay
pub over_one : (n : ℕ) (f g : ℕ → ℕ) (i : ℕ) → i < n → ((k : ℕ) → k < n → k ≢ i → g k ≡ f k) → over n g + f i ≡ over n f + g i
over_one zero f g i l h = absurd (omega arith)
over_one (suc n) f g i l h = ⊎_elim
    (λ (e : i ≡ n). let b = over_same n g f (λ k l. h k (omega arith) (omega arith)) in let s : f i ≡ f n = ap f e in let t : g i ≡ g n = ap g e in omega arith)
    (λ (d : i ≢ n). let b = over_one n f g i (omega arith) (λ k l. h k (omega arith)) in let a : g n ≡ f n = h n (omega arith) (omega arith) in omega arith) (same_or i n)

pub over_has : (n : ℕ) (f : ℕ → ℕ) (i : ℕ) → i < n → f i ≤ over n f
over_has zero f i l = absurd (omega arith)
over_has (suc n) f i l = ⊎_elim (λ (e : i ≡ n). let s : f i ≡ f n = ap f e in omega arith) (λ (d : i ≢ n). let b = over_has n f i (omega arith) in omega arith) (same_or i n)

pub over_two : (n : ℕ) (f : ℕ → ℕ) (i j : ℕ) → i < n → j < n → i ≢ j → f i + f j ≤ over n f
over_two zero f i j l m d = absurd (omega arith)
over_two (suc n) f i j l m d = ⊎_elim
    (λ (e : i ≡ n). let s : f i ≡ f n = ap f e in let b = over_has n f j (omega arith) in omega arith)
    (λ (e : i ≢ n). ⊎_elim (λ (k : j ≡ n). let s : f j ≡ f n = ap f k in let b = over_has n f i (omega arith) in omega arith)
    (λ (k : j ≢ n). let b = over_two n f i j (omega arith) (omega arith) d in omega arith) (same_or j n)) (same_or i n)

pub over_zero : (n : ℕ) → over n (λ _. 0) ≡ 0
over_zero zero = refl
over_zero (suc n) = let b = over_zero n in omega arith

-- a sum of sums in either order
pub over_swap : (n m : ℕ) (f : ℕ → ℕ → ℕ) → over n (λ p. over m (λ i. f p i)) ≡ over m (λ i. over n (λ p. f p i))
over_swap zero m f = sym (over_zero m)
over_swap (suc n) m f = let b = over_swap n m f in let a = over_add m (f n) (λ i. over n (λ p. f p i)) in omega arith

pub put_here : {X : Type 0} (f : ℕ → X) (i : ℕ) (c : X) → put f i c i ≡ c
put_here f i c = ap (λ (b : Bool). cond b c (f i)) (eq-eqb i i refl)

pub put_else : {X : Type 0} (f : ℕ → X) (i : ℕ) (c : X) (j : ℕ) → j ≢ i → put f i c j ≡ f j
put_else f i c j d = ap (λ (b : Bool). cond b c (f j)) (ne_test j i d)

-- one and the others
pub over_but : (n : ℕ) (f : ℕ → ℕ) (p : ℕ) → p < n → over n (but p f) + f p ≡ over n f
over_but n f p l = let a = over_one n f (but p f) p l (λ k m d. ap (λ (b : Bool). cond b 0 (f k)) (ne_test k p d)) in let b : but p f p ≡ 0 = ap (λ (b : Bool). cond b 0 (f p)) (eq-eqb p p refl) in omega arith

pub yes_is : (b : Bool) (x y : ℕ) → b ≡ true → cond b x y ≡ x
yes_is true x y e = refl
yes_is false x y e = absurd (cc)

pub no_is : (b : Bool) (x y : ℕ) → b ≡ false → cond b x y ≡ y
no_is true x y e = absurd (cc)
no_is false x y e = refl

pub put_at : {X : Type 0} (f : ℕ → X) (i : ℕ) (c : X) (j : ℕ) → j ≡ i → put f i c j ≡ c
put_at f i c j e = ap (λ (b : Bool). cond b c (f j)) (eq-eqb j i e)

pub over_cond : (b : Bool) (n : ℕ) (f : ℕ → ℕ) (c : ℕ) → over n f ≤ c → over n (λ p. cond b (f p) 0) ≤ cond b c 0
over_cond true n f c h = h
over_cond false n f c h = let z = over_zero n in omega arith

abbrev pub one_at : ℕ → ℕ → ℕ
one_at i k = cond (eqb k i) 1 0

pub one_has : (n i : ℕ) → i < n → 1 ≤ over n (one_at i)
one_has n i l = let a = over_has n (one_at i) i l in let b : one_at i i ≡ 1 = yes_is (eqb i i) 1 0 (eq-eqb i i refl) in omega arith

-- strictly at two places
pub over_lt_two : (n : ℕ) (f g : ℕ → ℕ) (i j : ℕ) → i < n → j < n → i ≢ j → ((k : ℕ) → k < n → f k ≤ g k) → f i < g i → f j < g j → over n f + 2 ≤ over n g
over_lt_two n f g i j l m d h s t =
    let a = over_le n (λ k. f k + (one_at i k + one_at j k)) g point in
    let b = over_add n f (λ k. one_at i k + one_at j k) in
    let c = over_add n (one_at i) (one_at j) in
    let u = one_has n i l in let v = one_has n j m in omega arith
  where
    point : (k : ℕ) → k < n → f k + (one_at i k + one_at j k) ≤ g k
    point k kl = let z = h k kl in ⊎_elim
        (λ (e : k ≡ i). let a : one_at i k ≡ 1 = yes_is (eqb k i) 1 0 (eq-eqb k i e) in let b : one_at j k ≡ 0 = no_is (eqb k j) 1 0 (ne_test k j (λ q. d (sym e ∙ q))) in
        let w : f k < g k = subst (λ (x : ℕ). f x < g x) (sym e) s in omega arith)
        (λ (e : k ≢ i). let a : one_at i k ≡ 0 = no_is (eqb k i) 1 0 (ne_test k i e) in ⊎_elim
        (λ (q : k ≡ j). let b : one_at j k ≡ 1 = yes_is (eqb k j) 1 0 (eq-eqb k j q) in let w : f k < g k = subst (λ (x : ℕ). f x < g x) (sym q) t in omega arith)
        (λ (q : k ≢ j). let b : one_at j k ≡ 0 = no_is (eqb k j) 1 0 (ne_test k j q) in omega arith) (same_or k j)) (same_or k i)

-- some summand isn't 0
pub over_some : (n : ℕ) (f : ℕ → ℕ) → 0 < over n f → (i : ℕ) × (i < n) × (0 < f i)
over_some zero f h = absurd (omega arith)
over_some (suc n) f h = ⊎_elim
    (λ (e : f n ≡ 0). let r = over_some n f (omega arith) in let l = r.1 in (r.0, omega arith, r.2))
    (λ (d : f n ≢ 0). (n, omega arith, omega arith)) (same_or (f n) 0)
