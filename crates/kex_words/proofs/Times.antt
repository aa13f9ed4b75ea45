-- How often a number stands in a list.
use Rattle.std.proofs.Common.{◌≡◌, ◌≢◌, ℕ, ◌+◌, ◌<◌, Bool, cond, ne_eqb, eq-eqb, List, [], ◌∷◌, ◌++◌, refl, ap, ◌∙◌, arith}
use Rattle.kex_words.specs.Passes.{times}

-- how often a number stands in two lists in a row
pub times_append : (x : ℕ) (l m : List ℕ) → times x (l ++ m) ≡ times x l + times x m
times_append x [] m = omega arith
times_append x (y ∷ ys) m = let q = times_append x ys m in omega arith

pub times_head : (x : ℕ) (l : List ℕ) → times x (x ∷ l) ≡ 1 + times x l
times_head x l = ap (λ (b : Bool). cond b 1 0 + times x l) (eq-eqb x x refl)

pub times_other : (x y : ℕ) (l : List ℕ) → y ≢ x → times x (y ∷ l) ≡ times x l
times_other x y l n = ap (λ (b : Bool). cond b 1 0 + times x l) (ne_eqb y x n) ∙ omega arith

pub own_number : (p : ℕ) (l : List ℕ) → 0 < times p (p ∷ l)
own_number p l = let q = times_head p l in omega arith

pub once_more : (x : ℕ) (l : List ℕ) → times x (l ++ x ∷ []) ≡ times x l + 1
once_more x l = let a = times_append x l (x ∷ []) in let b = times_head x [] in omega arith

pub as_often : (x y : ℕ) (l : List ℕ) → y ≢ x → times x (l ++ y ∷ []) ≡ times x l
as_often x y l n = let a = times_append x l (y ∷ []) in let b = times_other x y [] n in omega arith
