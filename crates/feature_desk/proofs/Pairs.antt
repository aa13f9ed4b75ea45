-- The loop that pairs the passes.
use Rattle.std.proofs.Common.{◌≡◌, ℕ, zero, suc, ◌+◌, ◌<◌, List, [], ◌∷◌, ◌++◌, reverse, length, refl, ap, sym, ◌∙◌, subst, arith, slice_get, Some, EachIndex, All, length-append}
use Rattle.std.proofs.lemmas.List.{reverse-append}
use Rattle.std.proofs.lemmas.Option.{get_or_from_slice_get}
use Rattle.desk_seats.specs.Passes.{SeatPass}
use Rattle.desk_book.specs.Askers.{Asker}
use Rattle.feature_desk.specs.Sitters.{DeskView, IsOf, Sitter, newcomer}

-- n parties from the number k on
abbrev pub newcomers : DeskView → ℕ → ℕ → List Sitter
newcomers d k zero = []
newcomers d k (suc n) = newcomer d k ∷ newcomers d (k + 1) n

pub newcomer_at : (d : DeskView) (k n i : ℕ) → i < n → slice_get (newcomers d k n) i ≡ Some (newcomer d (k + i))
newcomer_at d k zero i lt = absurd (omega (arith, lt))
newcomer_at d k (suc n) zero lt = ap (λ (m : ℕ). Some (newcomer d m)) (omega arith)
newcomer_at d k (suc n) (suc i) lt = newcomer_at d (k + 1) n i (omega (arith, lt)) ∙ ap (λ (m : ℕ). Some (newcomer d m)) (omega arith)

newcomers_long : (d : DeskView) (k n : ℕ) → length (newcomers d k n) ≡ n
newcomers_long d k zero = refl
newcomers_long d k (suc n) = let r = newcomers_long d (k + 1) n in omega (arith, r)

last_at : {X : Type 0} (l : List X) (x : X) → slice_get (l ++ x ∷ []) (length l) ≡ Some x
last_at [] x = refl
last_at (y ∷ ys) x = last_at ys x

front_at : {X : Type 0} (l m : List X) (i : ℕ) → i < length l → slice_get (l ++ m) i ≡ slice_get l i
front_at [] m i lt = absurd (omega (arith, lt))
front_at (x ∷ xs) m zero lt = refl
front_at (x ∷ xs) m (suc i) lt = front_at xs m i (omega (arith, lt))

some_same : {X : Type 0} (a b : X) → Some a ≡ Some b → a ≡ b
some_same a b e = cc

-- what was popped, and what is left
module _ {X : Type 0} (f : ℕ → X) (all left : List X) (x : X) (cut : all ≡ left ++ x ∷ []) (each : EachIndex all (λ i. slice_get all i ≡ Some (f i))) where
  long : length all ≡ length left + 1
  long = ap length cut ∙ length-append left (x ∷ [])

  pub popped_is : x ≡ f (length left)
  popped_is = some_same x (f (length left)) (sym (last_at left x) ∙ (ap (λ (l : List X). slice_get l (length left)) (sym cut) ∙ each (length left) (let n = long in omega (arith, n))))

  pub popped_left : EachIndex left (λ i. slice_get left i ≡ Some (f i))
  popped_left i lt = sym (front_at left (x ∷ []) i lt) ∙ (ap (λ (l : List X). slice_get l i) (sym cut) ∙ each i (let n = long in omega (arith, n, lt)))

pub one_more : (d : DeskView) (k : ℕ) (made : List Sitter) (x : Sitter) → x ≡ newcomer d k → reverse made ≡ newcomers d (k + 1) (length made) → reverse (made ++ x ∷ []) ≡ newcomers d k (length (made ++ x ∷ []))
one_more d k made x is so =
    let n : length (made ++ x ∷ []) ≡ suc (length made) = (let l = length-append made (x ∷ []) in omega (arith, l)) in
    reverse-append made (x ∷ []) ∙ ((λ i. is i ∷ so i) ∙ ap (newcomers d k) (sym n))

pub all_made : (d : DeskView) (made all : List Sitter) (n : ℕ) → all ≡ reverse made → reverse made ≡ newcomers d 0 (length made) → length made ≡ n → (length all ≡ n) × EachIndex all (λ i. slice_get all i ≡ Some (newcomer d i))
all_made d made all n is so whole =
    let same : all ≡ newcomers d 0 n = is ∙ (so ∙ ap (newcomers d 0) whole) in
    let count : length all ≡ n = ap length same ∙ newcomers_long d 0 n in
    (count, λ i lt. ap (λ (l : List Sitter). slice_get l i) same ∙ newcomer_at d 0 n i (omega (arith, lt, count)) ∙ ap (λ (m : ℕ). Some (newcomer d m)) (omega arith))

-- the two passes of a newcomer fit
pub newcomer_fits : (d : DeskView) (n m : ℕ) (t : Asker) (o : SeatPass) → t ≡ (newcomer d n).ticket → o ≡ (newcomer d m).seat → n ≡ m → (o.number ≡ t.number) × (t.mine ≡ []) × (o.got ≡ [])
newcomer_fits d n m t o ticket seat same = (
  ap (λ (p : SeatPass). p.number) seat ∙ (sym same ∙ sym (ap (λ (a : Asker). a.number) ticket)),
  ap (λ (a : Asker). a.mine) ticket,
  ap (λ (p : SeatPass). p.got) seat,
)

-- and are of the desk
pub newcomers_own : (d : DeskView) (passes : List Sitter) → EachIndex passes (λ i. slice_get passes i ≡ Some (newcomer d i)) → All (λ (s : Sitter). IsOf s d) passes
newcomers_own d passes each k s lt = subst (λ (z : Sitter). IsOf z d) (sym (get_or_from_slice_get passes k (newcomer d k) s (each k lt))) (record { lock = refl; law = refl; seats = refl })
