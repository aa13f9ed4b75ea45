-- The loop that pairs the passes of the lock with the views of the board.
use Rattle.std.proofs.Common.{◌≡◌, ℕ, zero, suc, ◌+◌, ◌<◌, List, [], ◌∷◌, ◌++◌, reverse, length, refl, ap, sym, ◌∙◌, arith, slice_get, Some, EachIndex, length-append}
use Rattle.std.proofs.lemmas.List.{reverse-append}
use Rattle.turn_lock.specs.Passes.{Lock}
use Rattle.desk_book.specs.declared.book.DeskLaw.{DeskLaw}
use Rattle.desk_book.specs.Askers.{Asker, newcomer}

-- n parties from the number k on
abbrev pub newcomers : Lock DeskLaw → ℕ → ℕ → List Asker
newcomers l k zero = []
newcomers l k (suc n) = newcomer l k ∷ newcomers l (k + 1) n

newcomer_at : (l : Lock DeskLaw) (k n i : ℕ) → i < n → slice_get (newcomers l k n) i ≡ Some (newcomer l (k + i))
newcomer_at l k zero i lt = absurd (omega (arith, lt))
newcomer_at l k (suc n) zero lt = ap (λ (m : ℕ). Some (newcomer l m)) (omega arith)
newcomer_at l k (suc n) (suc i) lt = newcomer_at l (k + 1) n i (omega (arith, lt)) ∙ ap (λ (m : ℕ). Some (newcomer l m)) (omega arith)

newcomers_long : (l : Lock DeskLaw) (k n : ℕ) → length (newcomers l k n) ≡ n
newcomers_long l k zero = refl
newcomers_long l k (suc n) = let r = newcomers_long l (k + 1) n in omega (arith, r)

last_at : {X : Type 0} (l : List X) (x : X) → slice_get (l ++ x ∷ []) (length l) ≡ Some x
last_at [] x = refl
last_at (y ∷ ys) x = last_at ys x

front_at : {X : Type 0} (l m : List X) (i : ℕ) → i < length l → slice_get (l ++ m) i ≡ slice_get l i
front_at [] m i lt = absurd (omega (arith, lt))
front_at (x ∷ xs) m zero lt = refl
front_at (x ∷ xs) m (suc i) lt = front_at xs m i (omega (arith, lt))

some_same : {X : Type 0} (a b : X) → Some a ≡ Some b → a ≡ b
some_same a b e = cc

-- what was popped, and what is left
module _ {X : Type 0} (f : ℕ → X) (all left : List X) (x : X) (cut : all ≡ left ++ x ∷ []) (each : EachIndex all (λ i. slice_get all i ≡ Some (f i))) where
  long : length all ≡ length left + 1
  long = ap length cut ∙ length-append left (x ∷ [])

  pub popped_is : x ≡ f (length left)
  popped_is = some_same x (f (length left)) (sym (last_at left x) ∙ (ap (λ (l : List X). slice_get l (length left)) (sym cut) ∙ each (length left) (let n = long in omega (arith, n))))

  pub popped_left : EachIndex left (λ i. slice_get left i ≡ Some (f i))
  popped_left i lt = sym (front_at left (x ∷ []) i lt) ∙ (ap (λ (l : List X). slice_get l i) (sym cut) ∙ each i (let n = long in omega (arith, n, lt)))

pub one_more : (l : Lock DeskLaw) (k : ℕ) (made : List Asker) (x : Asker) → x ≡ newcomer l k → reverse made ≡ newcomers l (k + 1) (length made) → reverse (made ++ x ∷ []) ≡ newcomers l k (length (made ++ x ∷ []))
one_more l k made x is so =
    let n : length (made ++ x ∷ []) ≡ suc (length made) = (let m = length-append made (x ∷ []) in omega (arith, m)) in
    reverse-append made (x ∷ []) ∙ ((λ i. is i ∷ so i) ∙ ap (newcomers l k) (sym n))

pub all_made : (l : Lock DeskLaw) (made all : List Asker) (n : ℕ) → all ≡ reverse made → reverse made ≡ newcomers l 0 (length made) → length made ≡ n → (length all ≡ n) × EachIndex all (λ i. slice_get all i ≡ Some (newcomer l i))
all_made l made all n is so whole =
    let same : all ≡ newcomers l 0 n = is ∙ (so ∙ ap (newcomers l 0) whole) in
    let count : length all ≡ n = ap length same ∙ newcomers_long l 0 n in
    (count, λ i lt. ap (λ (x : List Asker). slice_get x i) same ∙ newcomer_at l 0 n i (omega (arith, lt, count)) ∙ ap (λ (m : ℕ). Some (newcomer l m)) (omega arith))
