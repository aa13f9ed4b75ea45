-- The laws of the machine: its invariant, and that it is safe.
-- The properties are those of Anderson and Moir, Distributed Computing 11, 1997; this invariant is this project's.
use Rattle.std.specs.Prelude.{◌≡◌, ◌⊎◌, ℕ, ◌+◌, ◌<◌, ◌≤◌, nat_le, true}
use Rattle.kex_core.specs.declared.place.Place.{Place}
use Rattle.kex_core.specs.declared.place.Place.TheVariants.{Out, Dec, Mark, Look, Spin, Naming, Named, Holding, Clearing, Inc, Unmark}
use Rattle.kex_core.specs.Nets.{Plan, on_path}
use Rattle.kex_core.specs.Worlds.{Machine}
use Rattle.kex_core.specs.Sets.{is_counted, is_within, is_between, is_passed, held_at, size, others, positions, owners, holders, insiders}
use Rattle.kex_core.specs.Assignments.{Assignment}

module _ (net : Plan) (p : ℕ) where
  -- a stage on p's path
  abbrev pub Stage : ℕ → Type 0
  Stage j = (j < net.stages) × (on_path net p j ≡ true)

  -- the place lies on p's path, and its number is a bit's or a card's
  abbrev pub Placed : Place → Type 0
  Placed Out = Unit {0}
  Placed (Dec j) = Stage j
  Placed (Mark j) = Stage j
  Placed (Look j) = Stage j
  Placed (Spin j) = Stage j
  Placed (Naming i) = (i + 1 < net.width) × (on_path net p net.stages ≡ true)
  Placed (Named s) = (s < net.width) × (on_path net p net.stages ≡ true)
  Placed (Holding s) = (s < net.width) × (on_path net p net.stages ≡ true)
  Placed (Clearing s) = (s + 1 < net.width) × (on_path net p net.stages ≡ true)
  Placed (Inc j) = Stage j
  Placed (Unmark j) = Stage j

-- q watches stage j: it is at Mark, or at Look or Spin and named by Q
abbrev pub Waits : Machine → ℕ → ℕ → Type 0
Waits w q j = (w.place q ≡ Mark j) ⊎ (((w.place q ≡ Look j) ⊎ (w.place q ≡ Spin j)) × (w.q j ≡ q + 1))

-- The invariant.
-- Each place lies on its party's path. A counter is its capacity less the number of those counted. At most c + 1 are within a stage, and at most m inside.
-- A stage whose counter is at its end is watched by someone. Whoever spins at a stage while Q names it has c others in Between.
-- At most m - i have a name position of i or more. A bit and a card word are 0 or 1, and the number of those who have the name, or hold the card.
pub record Kept (net : Plan) (w : Machine) : Type 0 where
  pub placed : (p : ℕ) → p < net.parties → Placed net p (w.place p)
  pub counters : (j : ℕ) → j < net.stages → w.x j + size is_counted net w j ≡ net.cap j + 1
  pub within : (j : ℕ) → j < net.stages → size is_within net w j ≤ net.cap j + 1
  pub inside : insiders net w ≤ net.width
  pub watched : (j : ℕ) → j < net.stages → w.x j ≡ 0 → (q : ℕ) × (q < net.parties) × Waits w q j
  pub waits : (p j : ℕ) → p < net.parties → w.place p ≡ Spin j → w.q j ≡ p + 1 → net.cap j ≤ others is_between net w p j
  pub names : (i : ℕ) → i < net.width → positions (nat_le i) net w + i ≤ net.width
  pub bits : (i : ℕ) → i + 1 < net.width → owners net w i ≡ w.bit i
  pub bit_small : (i : ℕ) → i + 1 < net.width → w.bit i ≤ 1
  pub cards : (s : ℕ) → s < net.width → holders net w s ≡ w.card s
  pub card_small : (s : ℕ) → s < net.width → w.card s ≤ 1

-- At most c have passed a stage of capacity c, at most m are inside, those that hold have different numbers below m, and whoever waits has c others in Between.
pub record Safe (net : Plan) (w : Machine) : Type 0 where
  pub passed : (j : ℕ) → j < net.stages → size is_passed net w j ≤ net.cap j
  pub inside : insiders net w ≤ net.width
  pub assigned : Assignment net.parties net.width (λ p. held_at (w.place p))
  pub waits : (p j : ℕ) → p < net.parties → w.place p ≡ Spin j → w.q j ≡ p + 1 → net.cap j ≤ others is_between net w p j
