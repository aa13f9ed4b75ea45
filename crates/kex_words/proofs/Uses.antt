-- The uses of all cards together are as many as the numbers that were taken.
use Rattle.std.proofs.Common.{◌≡◌, ℕ, zero, suc, ◌+◌, ◌%◌, ◌^◌, ◌<◌, ◌≤◌, List, [], ◌∷◌, length, refl, sym, ap, ◌∙◌, arith, slice_get, Some, All, EachIndex, sum_by}
use Rattle.std.proofs.lemmas.List.Sums.{sum_by-cons}
use mathlib.Core.Logic.{dite}
use mathlib.Core.Option.{some, some-injective, some-ne-none}
use native.Mathlib.Decide.{ℕ_discrete, dec_le}
use lib.ListN.{get_elem?}
use Rattle.kex_words.specs.declared.card.Card.{Card}
use Rattle.kex_words.specs.Passes.{Pass, times, counted_card}
use Rattle.kex_words.specs.Steps.{numbers_of}
use Rattle.pass_roles.proofs.Members.{at_all, all_at}
use Rattle.kex_words.proofs.Times.{times_head, times_other}

-- how often the n numbers from k on stand in a list
abbrev span : ℕ → ℕ → List ℕ → ℕ
span k zero l = 0
span k (suc n) l = times k l + span (k + 1) n l

span_none : (k n : ℕ) → span k n [] ≡ 0
span_none k zero = refl
span_none k (suc n) = let q = span_none (k + 1) n in omega arith

span_cons : (k n x : ℕ) (l : List ℕ) → span k n (x ∷ l) ≡ span k n (x ∷ []) + span k n l
span_cons k zero x l = omega arith
span_cons k (suc n) x l = let q = span_cons (k + 1) n x l in omega arith

span_below : (k n x : ℕ) → x < k → span k n (x ∷ []) ≡ 0
span_below k zero x l = refl
span_below k (suc n) x l = let q = span_below (k + 1) n x (omega arith) in let o = times_other k x [] (λ e. omega arith) in omega arith

span_inside : (k n x : ℕ) → k ≤ x → x < k + n → span k n (x ∷ []) ≡ 1
span_inside k zero x low high = absurd (omega arith)
span_inside k (suc n) x low high = dite (ℕ_discrete x k)
    (λ e. let o : times k (x ∷ []) ≡ times k (k ∷ []) = ap (λ (y : ℕ). times k (y ∷ [])) e in let h = times_head k [] in let q = span_below (k + 1) n x (omega arith) in omega arith)
    (λ d. let o = times_other k x [] d in let q = span_inside (k + 1) n x (omega arith) (omega arith) in omega arith)

-- where no other number stands in it
span_all : (n : ℕ) (l : List ℕ) → ((s : ℕ) → n ≤ s → times s l ≡ 0) → span 0 n l ≡ length l
span_all n [] h = span_none 0 n
span_all n (x ∷ xs) h = dite (dec_le n x) (λ far. absurd (let a = h x far in let b = times_head x xs in omega arith))
    (λ near. let a = span_cons 0 n x xs in let b = span_inside 0 n x (omega arith) (omega arith) in let q = span_all n xs (λ s far. let c = h s far in omega arith) in omega arith)

card_is : (a b : Card) → Some a ≡ Some b → a ≡ b
card_is a b e = cc

sums_from : (k : ℕ) (got : List ℕ) (cards : List Card) → EachIndex cards (λ i. slice_get cards i ≡ Some (counted_card got (k + i))) → sum_by (λ c. c.uses) cards % 2 ^ 64 ≡ span k (length cards) got % 2 ^ 64
sums_from k got [] each = refl
sums_from k got (c ∷ cs) each =
    let a : c.uses ≡ times k got % 2 ^ 64 = ap (λ (d : Card). d.uses) (card_is c (counted_card got (k + 0)) (each 0 (omega arith))) ∙ ap (λ (y : ℕ). times y got % 2 ^ 64) (omega arith) in
    let b = sums_from (k + 1) got cs (λ i l. each (suc i) (omega arith) ∙ ap (λ (y : ℕ). Some (counted_card got y)) (omega arith)) in
    let d = sum_by-cons (λ (x : Card). x.uses) c cs in omega arith

pub sums : (got : List ℕ) (cards : List Card) (w : ℕ) → length cards ≡ w → EachIndex cards (λ i. slice_get cards i ≡ Some (counted_card got i)) → ((s : ℕ) → w ≤ s → times s got ≡ 0)
    → sum_by (λ c. c.uses) cards % 2 ^ 64 ≡ length got % 2 ^ 64
sums got cards w count each low =
    sums_from 0 got cards (λ i l. each i l ∙ ap (λ (y : ℕ). Some (counted_card got y)) (omega arith)) ∙ ap (λ (n : ℕ). n % 2 ^ 64) (span_all (length cards) got (λ s far. low s (omega arith)))

-- each number that stands in a list does so once at least
times_at : (l : List ℕ) (i x : ℕ) → get_elem? l i ≡ some x → 0 < times x l
times_at [] i x e = absurd (some-ne-none x (sym e))
times_at (y ∷ ys) zero x e = let q : times x (y ∷ ys) ≡ times y (y ∷ ys) = ap (λ (z : ℕ). times z (y ∷ ys)) (sym (some-injective y x e)) in let h = times_head y ys in omega arith
times_at (y ∷ ys) (suc i) x e = let q = times_at ys i x e in omega arith

pub all_below : (n : ℕ) (l : List ℕ) → ((q : ℕ) → 0 < times q l → q < n) → All (λ q. q < n) l
all_below n l h = all_at (λ (q : ℕ). q < n) l (λ i x e. h x (times_at l i x e))

numbers_at : (l : List Pass) (i : ℕ) (p : Pass) → get_elem? l i ≡ some p → get_elem? (numbers_of l) i ≡ some p.number
numbers_at [] i p e = absurd (some-ne-none p (sym e))
numbers_at (x ∷ xs) zero p e = ap (λ (z : Pass). some z.number) (some-injective x p e)
numbers_at (x ∷ xs) (suc i) p e = numbers_at xs i p e

pub all_numbered : (n : ℕ) (l : List Pass) → All (λ q. q < n) (numbers_of l) → All (λ p. p.number < n) l
all_numbered n l h = all_at (λ (p : Pass). p.number < n) l (λ i p e. at_all (λ (q : ℕ). q < n) (numbers_of l) i p.number h (numbers_at l i p e))
