-- Worlds on a chain.
use Rattle.std.specs.Prelude.{◌≡◌, ℕ, ◌-◌, min}
use Rattle.kex_core.specs.Shapes.{State, plan}

-- the world is one of the chain for n parties and k licences: as many parties, stages and seats
pub record IsOf (n k : ℕ) (w : State) : Type 0 where
  pub parties : w.net.parties ≡ n
  pub stages : (plan w.net).stages ≡ n - min k n
  pub width : w.net.width ≡ min k n
