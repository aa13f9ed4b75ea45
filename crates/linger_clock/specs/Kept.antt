-- How a clock keeps its deadlines.
use Rattle.std.specs.Prelude.{◌≡◌, ℕ, ◌+◌, ◌*◌, ◌≤◌, List, All, length}
use Rattle.linger_clock.specs.declared.Deadline.{Deadline}
use Rattle.linger_clock.specs.declared.tree.Order.TheVariants.{ByOwner}
use Rattle.linger_clock.specs.Deadlines.{until_of, IsClock}
use Rattle.linger_clock.specs.Ranks.{IsRanked}

-- the same deadlines twice, by their moments and by their owners, with the memory of two nodes for each that there is still room for,
-- and a moment before which none of them falls due
pub record IsKept (room earliest : ℕ) (by_moment by_owner : List Deadline) (spare capacity : ℕ) : Type 0 where
  pub sound : IsClock (record { room = room; pairs = by_moment })
  pub ranked : IsRanked ByOwner by_owner
  pub same : (owner : ℕ) → until_of owner by_owner ≡ until_of owner by_moment
  pub as_many : length by_owner ≡ length by_moment
  pub spare_left : spare + 2 * length by_moment ≡ 2 * room
  pub roomy : 2 * room ≤ capacity
  pub not_earlier : All (λ d. earliest ≤ d.until) by_moment
