-- How many can come to a stage, by lists of links: where each leads, and how many can take it.
use Rattle.std.proofs.Common.{◌≡◌, ◌≢◌, ℕ, zero, suc, ◌+◌, ◌<◌, ◌≤◌, cond, eqb, List, [], ◌∷◌, ◌++◌, length, get_or, sum, refl, ap, ◌∙◌, ⊎_elim, arith}
use Rattle.std.proofs.lemmas.List.Sums.{sum_by-cons}
use Rattle.std.proofs.lemmas.Bool.{eq-eqb}
use Rattle.kex_core.specs.Nets.{over}
use Rattle.kex_core.proofs.Sums.{same_or, yes_is, no_is, ne_test}

-- so many come to j by a link to t
abbrev pub link : ℕ → ℕ → ℕ → ℕ
link t j c = cond (eqb t j) c 0

-- how many come to j by these links
abbrev pub inflow : ℕ → List ℕ → List ℕ → ℕ
inflow j [] cs = 0
inflow j (t ∷ ts) [] = 0
inflow j (t ∷ ts) (c ∷ cs) = cond (eqb t j) c 0 + inflow j ts cs

pub at_it : (t j c : ℕ) → t ≡ j → cond (eqb t j) c 0 ≡ c
at_it t j c e = yes_is (eqb t j) c 0 (eq-eqb t j e)

pub not_at : (t j c : ℕ) → t ≢ j → cond (eqb t j) c 0 ≡ 0
not_at t j c d = no_is (eqb t j) c 0 (ne_test t j d)

pub link_add : (t j a b : ℕ) → cond (eqb t j) a 0 + cond (eqb t j) b 0 ≡ cond (eqb t j) (a + b) 0
link_add t j a b = ⊎_elim (λ (e : t ≡ j). let x = at_it t j a e in let y = at_it t j b e in let z = at_it t j (a + b) e in omega arith)
    (λ (d : t ≢ j). let x = not_at t j a d in let y = not_at t j b d in let z = not_at t j (a + b) d in omega arith) (same_or t j)

pub link_le : (t j a b : ℕ) → a ≤ b → cond (eqb t j) a 0 ≤ cond (eqb t j) b 0
link_le t j a b l = ⊎_elim (λ (e : t ≡ j). let x = at_it t j a e in let y = at_it t j b e in omega arith)
    (λ (d : t ≢ j). let x = not_at t j a d in let y = not_at t j b d in omega arith) (same_or t j)

pub link_most : (t j a : ℕ) → cond (eqb t j) a 0 ≤ a
link_most t j a = ⊎_elim (λ (e : t ≡ j). let x = at_it t j a e in omega arith) (λ (d : t ≢ j). let x = not_at t j a d in omega arith) (same_or t j)

pub inflow-append : (j : ℕ) (ts us cs ds : List ℕ) → length ts ≡ length cs → inflow j (ts ++ us) (cs ++ ds) ≡ inflow j ts cs + inflow j us ds
inflow-append j [] us [] ds e = omega arith
inflow-append j [] us (c ∷ cs) ds e = absurd (omega arith)
inflow-append j (t ∷ ts) us [] ds e = absurd (omega arith)
inflow-append j (t ∷ ts) us (c ∷ cs) ds e = let h = inflow-append j ts us cs ds (omega arith) in omega arith

pub sum-cons : (x : ℕ) (xs : List ℕ) → sum (x ∷ xs) ≡ x + sum xs
sum-cons x xs = sum_by-cons (λ (v : ℕ). v) x xs

-- no more than all
pub inflow_most : (j : ℕ) (ts cs : List ℕ) → inflow j ts cs ≤ sum cs
inflow_most j [] cs = omega arith
inflow_most j (t ∷ ts) [] = omega arith
inflow_most j (t ∷ ts) (c ∷ cs) = let h = inflow_most j ts cs in let a = link_most t j c in let b = sum-cons c cs in omega arith

-- a sum over the first numbers and over the ones behind
pub over_split : (a b : ℕ) (f : ℕ → ℕ) → over (b + a) f ≡ over a f + over b (λ i. f (a + i))
over_split a zero f = let e : zero + a ≡ a = omega arith in ap (λ (n : ℕ). over n f) e ∙ omega arith
over_split a (suc b) f = let h = over_split a b f in let e : suc b + a ≡ suc (b + a) = omega arith in let s : over (suc b + a) f ≡ over (suc (b + a)) f = ap (λ (n : ℕ). over n f) e in
    let q : f (b + a) ≡ f (a + b) = ap f (omega arith) in omega arith

pub over_front : (n : ℕ) (f : ℕ → ℕ) → over (suc n) f ≡ f 0 + over n (λ i. f (suc i))
over_front zero f = omega arith
over_front (suc n) f = let h = over_front n f in omega arith

-- as a sum over the links' numbers
pub inflow_over : (j : ℕ) (ts cs : List ℕ) → length ts ≡ length cs → over (length cs) (λ i. cond (eqb (get_or ts i 0) j) (get_or cs i 0) 0) ≡ inflow j ts cs
inflow_over j [] [] e = refl
inflow_over j [] (c ∷ cs) e = absurd (omega arith)
inflow_over j (t ∷ ts) [] e = refl
inflow_over j (t ∷ ts) (c ∷ cs) e = let h = inflow_over j ts cs (omega arith) in let f = over_front (length cs) (λ (i : ℕ). cond (eqb (get_or (t ∷ ts) i 0) j) (get_or (c ∷ cs) i 0) 0) in f ∙ ap (λ (n : ℕ). cond (eqb t j) c 0 + n) h

-- so many equal summands, of a link
pub over_link : (n t j : ℕ) (f : ℕ → ℕ) → ((i : ℕ) → i < n → f i ≡ cond (eqb t j) 1 0) → over n f ≡ cond (eqb t j) n 0
over_link zero t j f h = let a = link_most t j 0 in omega arith
over_link (suc n) t j f h = let b = over_link n t j f (λ i l. h i (omega arith)) in let a = h n (omega arith) in let c = link_add t j 1 n in let e : cond (eqb t j) (1 + n) 0 ≡ cond (eqb t j) (suc n) 0 = ap (λ (x : ℕ). cond (eqb t j) x 0) (omega arith) in omega arith
