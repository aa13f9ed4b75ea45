-- Sums over views, and what one spot is worth in them.
use Rattle.std.proofs.Common.{◌≡◌, ℕ, suc, ◌+◌, ◌≤◌, List, [], ◌∷◌, ◌++◌, refl, arith}
use mathlib.Core.Option.{some}
use lib.ListN.{get_elem?}
use Rattle.pass_roles.specs.Roles.{total}
use Rattle.kex_gate.specs.declared.view.Spot.{Spot}
use Rattle.kex_gate.specs.declared.view.Spot.TheVariants.{Free, Testing, Taking, Fast, Clearing, Giving, Slow}
use Rattle.kex_gate.specs.Rule.{just, busy, within, reaches, owns, is_out}

module _ {X : Type 0} where
  pub total_le : (f g : X → ℕ) (l : List X) → ((j : ℕ) (v : X) → get_elem? l j ≡ some v → f v ≤ g v) → total f l ≤ total g l
  total_le f g [] h = omega arith
  total_le f g (x ∷ xs) h = let a = h 0 x refl in let b = total_le f g xs (λ j v e. h (suc j) v e) in omega arith

  pub total_le2 : (f g k : X → ℕ) (l : List X) → ((v : X) → f v + g v ≤ k v) → total f l + total g l ≤ total k l
  total_le2 f g k [] h = omega arith
  total_le2 f g k (x ∷ xs) h = let a = h x in let b = total_le2 f g k xs h in omega arith

  pub total_le3 : (f g h k : X → ℕ) (l : List X) → ((v : X) → f v + g v + h v ≤ k v) → total f l + total g l + total h l ≤ total k l
  total_le3 f g h k [] le = omega arith
  total_le3 f g h k (x ∷ xs) le = let a = le x in let b = total_le3 f g h k xs le in omega arith

  pub total_append : (f : X → ℕ) (l m : List X) → total f (l ++ m) ≡ total f l + total f m
  total_append f [] m = omega arith
  total_append f (x ∷ xs) m = let a = total_append f xs m in omega arith

-- 1 of one that is to test bit i
abbrev pub tests : ℕ → Spot → ℕ
tests i (Testing k) = just i k
tests i Free = 0
tests i (Taking k) = 0
tests i (Fast k) = 0
tests i (Clearing k) = 0
tests i Giving = 0
tests i Slow = 0

-- 1 of one that is to take pass i
abbrev pub takes : ℕ → Spot → ℕ
takes i (Taking k) = just i k
takes i Free = 0
takes i (Testing k) = 0
takes i (Fast k) = 0
takes i (Clearing k) = 0
takes i Giving = 0
takes i Slow = 0

pub within_busy : (a : Spot) → within a ≤ busy a
within_busy Free = omega arith
within_busy (Testing k) = omega arith
within_busy (Taking k) = omega arith
within_busy (Fast k) = omega arith
within_busy (Clearing k) = omega arith
within_busy Giving = omega arith
within_busy Slow = omega arith

pub busy_one : (a : Spot) → busy a ≤ 1
busy_one Free = omega arith
busy_one (Testing k) = omega arith
busy_one (Taking k) = omega arith
busy_one (Fast k) = omega arith
busy_one (Clearing k) = omega arith
busy_one Giving = omega arith
busy_one Slow = omega arith

pub reaches_within : (a : Spot) → reaches 0 a ≤ within a
reaches_within Free = omega arith
reaches_within (Testing k) = omega arith
reaches_within (Taking k) = omega arith
reaches_within (Fast k) = omega arith
reaches_within (Clearing k) = omega arith
reaches_within Giving = omega arith
reaches_within Slow = omega arith

pub owns_reaches : (i : ℕ) (a : Spot) → owns i a ≤ reaches i a
owns_reaches i Free = omega arith
owns_reaches i (Testing k) = omega arith
owns_reaches i (Taking k) = omega arith
owns_reaches i (Fast k) = omega arith
owns_reaches i (Clearing k) = omega arith
owns_reaches i Giving = omega arith
owns_reaches i Slow = omega arith

-- one at number i is no further
pub further_on : (i : ℕ) (a : Spot) → reaches (i + 1) a + owns i a + tests i a ≤ reaches i a
further_on i Free = omega arith
further_on i (Testing k) = omega arith
further_on i (Taking k) = omega arith
further_on i (Fast k) = omega arith
further_on i (Clearing k) = omega arith
further_on i Giving = omega arith
further_on i Slow = omega arith

pub out_owns : (i : ℕ) (a : Spot) → is_out i a + takes i a ≤ owns i a
out_owns i Free = omega arith
out_owns i (Testing k) = omega arith
out_owns i (Taking k) = omega arith
out_owns i (Fast k) = omega arith
out_owns i (Clearing k) = omega arith
out_owns i Giving = omega arith
out_owns i Slow = omega arith

pub just_here : (i : ℕ) → just i i ≡ 1
just_here i = omega arith
