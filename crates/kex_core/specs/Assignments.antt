-- A map from parties to numbers.
use Rattle.std.specs.Prelude.{◌≡◌, ℕ, ◌<◌, ◌≤◌, Option, Some, is_some}
use Rattle.kex_core.specs.Nets.{count}

-- at most m of the n parties have a number, each number is below m, and no two are equal
pub record Assignment (n m : ℕ) (number : ℕ → Option ℕ) : Type 0 where
  pub few : count n (λ p. is_some (number p)) ≤ m
  pub low : (p s : ℕ) → p < n → number p ≡ Some s → s < m
  pub apart : (p q s : ℕ) → p < n → q < n → number p ≡ Some s → number q ≡ Some s → p ≡ q
