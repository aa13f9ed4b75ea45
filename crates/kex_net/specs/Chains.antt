-- The chain for n parties and k licences, m the smaller of them: capacities n-1, n-2, .., m; every party starts at the first stage, and each stage leads to the next.
-- After Anderson and Moir, Distributed Computing 11, 1997.
use Rattle.std.specs.Prelude.{◌≡◌, ℕ, ◌+◌, ◌-◌, ◌<◌, length, min, slice_index}
use Rattle.kex_core.specs.Shapes.{Sheet}

pub record IsChain (n k : ℕ) (s : Sheet) : Type 0 where
  pub parties : s.parties ≡ n
  pub width : s.width ≡ min k n
  pub stages : length s.caps ≡ n - min k n
  pub nexts : length s.nexts ≡ length s.caps
  pub starts : length s.starts ≡ n
  pub cap : (j : ℕ) → j < length s.caps → slice_index s.caps j ≡ n - 1 - j
  pub next : (j : ℕ) → j < length s.caps → slice_index s.nexts j ≡ j + 1
  pub start : (p : ℕ) → p < n → slice_index s.starts p ≡ 0
