-- Nets of stages, and the paths through them. The number of stages stands for Exit.
-- The stages are after Anderson and Moir, Distributed Computing 11, 1997. Nets of them in this form are this project's.
use Rattle.std.specs.Prelude.{ℕ, ◌+◌, ◌<◌, ◌≤◌, ◌==◌, ◌&&◌, ◌||◌, nat_lt, Bool, if◌then◌else◌}
use Rattle.std.proofs.Common.{zero, suc}

-- a net: how many parties it has, how many numbers it gives, and its stages
pub record Plan : Type 0 where
  pub parties : ℕ
  pub width : ℕ
  pub stages : ℕ
  pub cap : ℕ → ℕ
  pub next : ℕ → ℕ
  pub start : ℕ → ℕ

-- the sum of f over the numbers below n
abbrev pub over : ℕ → (ℕ → ℕ) → ℕ
over zero f = 0
over (suc n) f = f n + over n f

-- how many of the numbers below n pass the test
abbrev pub count : ℕ → (ℕ → Bool) → ℕ
count n test = over n (λ k. (if test k then 1 else 0))

-- the number of parties that start at j
abbrev pub starts : Plan → ℕ → ℕ
starts net j = count net.parties (λ p. net.start p == j)

-- the capacities of the stages whose next is j
abbrev pub feeds : Plan → ℕ → ℕ
feeds net j = over net.stages (λ i. (if net.next i == j then net.cap i else 0))

-- A valid net. No more can come to a stage than it can admit and one more, and to Exit no more than the width.
pub record Valid (net : Plan) : Type 0 where
  pub two : 2 ≤ net.parties
  pub wide : 1 ≤ net.width
  pub cap : (j : ℕ) → j < net.stages → 1 ≤ net.cap j
  pub next_low : (j : ℕ) → j < net.stages → j < net.next j
  pub next_high : (j : ℕ) → j < net.stages → net.next j ≤ net.stages
  pub start : (p : ℕ) → p < net.parties → net.start p ≤ net.stages
  pub room : (j : ℕ) → j < net.stages → starts net j + feeds net j ≤ net.cap j + 1
  pub room_exit : starts net net.stages + feeds net net.stages ≤ net.width

-- from i, at most n steps of next come to j. A step goes to a higher number
abbrev pub visits : (ℕ → ℕ) → ℕ → ℕ → ℕ → Bool
visits next zero i j = i == j
visits next (suc n) i j = (i == j) || (nat_lt i j && visits next n (next i) j)

-- j, a stage or Exit, is on p's path: its start, the next of it, and so on to Exit
abbrev pub on_path : Plan → ℕ → ℕ → Bool
on_path net p j = visits net.next net.stages (net.start p) j

abbrev pub walk : (ℕ → ℕ) → ℕ → ℕ → ℕ → ℕ
walk next zero i j = i
walk next (suc n) i j = (if next i == j then i else walk next n (next i) j)

-- the stage before j on p's path, where j is on it and isn't its start
abbrev pub before : Plan → ℕ → ℕ → ℕ
before net p j = walk net.next net.stages (net.start p) j
