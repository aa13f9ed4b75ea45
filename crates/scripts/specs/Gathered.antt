-- Lines that were gathered.
use Rattle.std.specs.Prelude.{◌≡◌, ℕ, ◌≤◌, List, length}
use Rattle.scripts.specs.declared.gathered.TheConstants.{GATHER_LIMIT}

-- so many bytes of a room are taken
pub record IsWithin (at : ℕ) (room : List ℕ) : Type 0 where
  pub wide : length room ≡ GATHER_LIMIT
  pub within : at ≤ GATHER_LIMIT
