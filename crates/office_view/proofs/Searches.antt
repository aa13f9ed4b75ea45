-- A search that goes on from where another one ended.
use Rattle.std.proofs.Common.{◌≡◌, ℕ, ◌+◌, ◌-◌, ◌<◌, ◌≤◌, ◌∙◌, List, [], ◌∷◌, Bool, true, false, true≢false, cond, length, drop, get_or, Option, None, Some, IfSome, refl, sym, ap, arith, ⊎_elim}
use Rattle.std.proofs.lemmas.Bool.{cases_Bool}
use Rattle.std.proofs.lemmas.List.{drop-drop, get_or-drop, length-drop}
use Rattle.std.specs.List.{find, position_from}
use Rattle.std.specs.Option.{option_map}

-- what a search from a place gives, where there is one
abbrev pub search_at : {R : Type 0} → R → (ℕ → R) → Option ℕ → R
search_at none from None = none
search_at none from (Some i) = from i

-- what is left of a list behind the first of a part of it
pub rest_behind : {X : Type 0} (k : ℕ) (x : X) (xs all : List X) → x ∷ xs ≡ drop k all → xs ≡ drop (k + 1) all
rest_behind k x xs all e = ap (drop 1) e ∙ drop-drop 1 k all

-- a search that passes by all that fail a test may look for the first that passes it, and go on from there
pub search_skips : {X R : Type 0} (f : ℕ → List X → R) (none : R) (q : X → Bool) → ((k : ℕ) → f k [] ≡ none) → ((k : ℕ) (x : X) (xs : List X) → q x ≡ false → f k (x ∷ xs) ≡ f (k + 1) xs)
    → (k : ℕ) (xs all : List X) → xs ≡ drop k all → f k xs ≡ search_at none (λ i. f i (drop i all)) (position_from q k xs)
search_skips f none q ends skips k [] all e = ends k
search_skips f none q ends skips k (x ∷ xs) all e =
    let at : Bool → Option ℕ = λ b. cond b (Some k) (position_from q (k + 1) xs) in
    ⊎_elim
    (λ (here : q x ≡ true). ap (f k) e ∙ sym (ap (λ b. search_at none (λ i. f i (drop i all)) (at b)) here))
    (λ (later : q x ≡ false). skips k x xs later ∙ search_skips f none q ends skips (k + 1) xs all (rest_behind k x xs all e) ∙ sym (ap (λ b. search_at none (λ i. f i (drop i all)) (at b)) later))
    (cases_Bool (q x))

-- a test that passes only what a wider one passes
pub fails_too : (b c : Bool) → (b ≡ true → c ≡ true) → c ≡ false → b ≡ false
fails_too true c wider fails = absurd (true≢false (sym (wider refl) ∙ fails))
fails_too false c wider fails = refl

-- who looks for what passes a test may look for the first that passes a wider one, and go on from there
pub search_narrows : {X : Type 0} (p q : X → Bool) → ((x : X) → p x ≡ true → q x ≡ true) → (k : ℕ) (all : List X)
    → position_from p k (drop k all) ≡ search_at None (λ i. position_from p i (drop i all)) (position_from q k (drop k all))
search_narrows p q wider k all =
    search_skips (position_from p) None q (λ j. refl) (λ j x xs fails. ap (λ b. cond b (Some j) (position_from p (j + 1) xs)) (fails_too (p x) (q x) (wider x) fails)) k (drop k all) all refl

pub find_narrows : {X : Type 0} (p q : X → Bool) → ((x : X) → p x ≡ true → q x ≡ true) → (all : List X) → find p all ≡ search_at None (λ i. find p (drop i all)) (position_from q 0 all)
find_narrows p q wider all =
    search_skips (λ j xs. find p xs) None q (λ j. refl) (λ j x xs fails. ap (λ b. cond b (Some x) (find p xs)) (fails_too (p x) (q x) (wider x) fails)) 0 all all refl

-- where a list is searched whose places are counted from k on
pub search_shifts : {X : Type 0} (p : X → Bool) (k j : ℕ) (xs : List X) → position_from p (k + j) xs ≡ option_map (λ i. k + i) (position_from p j xs)
search_shifts p k j [] = refl
search_shifts p k j (x ∷ xs) =
    elim (p x) as (λ b. cond b (Some (k + j)) (position_from p (k + j + 1) xs) ≡ option_map (λ i. k + i) (cond b (Some j) (position_from p (j + 1) xs)))
    [ true ↦ refl | false ↦ ap (λ n. position_from p n xs) (omega arith) ∙ search_shifts p k (j + 1) xs ]

-- what a search finds: a place of the list, from where it began on, that passes
pub record IsHit {X : Type 0} (p : X → Bool) (k : ℕ) (all : List X) (i : ℕ) : Type 0 where
  pub behind : k ≤ i
  pub within : i < length all
  pub passes : (d : X) → p (get_or all i d) ≡ true

hit_here : {X : Type 0} (p : X → Bool) (k : ℕ) (x : X) (xs all : List X) → x ∷ xs ≡ drop k all → p x ≡ true → IsHit p k all k
hit_here p k x xs all e passes = record {
  behind = omega arith;
  within = omega (arith, ap length e, length-drop k all);
  passes = λ d. ap p (ap (λ i. get_or all i d) (omega arith) ∙ sym (ap (λ ys. get_or ys 0 d) e ∙ get_or-drop k all 0 d)) ∙ passes;
}

hits_before : {X : Type 0} (p : X → Bool) (k : ℕ) (all : List X) (o : Option ℕ) → IfSome o (IsHit p (k + 1) all) → IfSome o (IsHit p k all)
hits_before p k all None h = tt
hits_before p k all (Some i) h = record { behind = omega (arith, h.behind); within = h.within; passes = h.passes }

pub search_hits : {X : Type 0} (p : X → Bool) (k : ℕ) (xs all : List X) → xs ≡ drop k all → IfSome (position_from p k xs) (IsHit p k all)
search_hits p k [] all e = tt
search_hits p k (x ∷ xs) all e =
    let on : IfSome (position_from p (k + 1) xs) (IsHit p k all) = hits_before p k all (position_from p (k + 1) xs) (search_hits p (k + 1) xs all (rest_behind k x xs all e)) in
    elim (p x) as (λ (b : Bool). (p x ≡ b) → IfSome (cond b (Some k) (position_from p (k + 1) xs)) (IsHit p k all)) [ true ↦ λ here. hit_here p k x xs all e here | false ↦ λ later. on ] refl

hit_within : {X : Type 0} (p : X → Bool) (k : ℕ) (all : List X) (o : Option ℕ) → IfSome o (IsHit p k all) → IfSome o (λ i. i < length all)
hit_within p k all None h = tt
hit_within p k all (Some i) h = h.within

pub search_within : {X : Type 0} (p : X → Bool) (k : ℕ) (all : List X) → IfSome (position_from p k (drop k all)) (λ i. i < length all)
search_within p k all = hit_within p k all (position_from p k (drop k all)) (search_hits p k (drop k all) all refl)

-- how many of a list there are from a place on
abbrev pub left_at : ℕ → Option ℕ → ℕ
left_at n None = 0
left_at n (Some i) = n - i

hit_left : {X : Type 0} (p : X → Bool) (i : ℕ) (all : List X) (o : Option ℕ) → i < length all → IfSome o (IsHit p (i + 1) all) → left_at (length all) o < length all - i
hit_left p i all None within h = omega (arith, within)
hit_left p i all (Some j) within h = omega (arith, within, h.behind, h.within)

-- fewer are left behind a place
pub search_leaves : {X : Type 0} (p : X → Bool) (i : ℕ) (all : List X) → i < length all → left_at (length all) (position_from p (i + 1) (drop (i + 1) all)) < length all - i
search_leaves p i all within = hit_left p i all (position_from p (i + 1) (drop (i + 1) all)) within (search_hits p (i + 1) (drop (i + 1) all) all refl)

-- an item of a list that has a place
pub any_item : {X : Type 0} (all : List X) (i : ℕ) → i < length all → X
any_item [] i within = absurd (omega (arith, within))
any_item (x ∷ xs) i within = x
