-- What the making of a net refuses, and why.
use Rattle.std.specs.Prelude.{ℕ, ◌+◌, ◌<◌, ◌≤◌}
use Rattle.kex_core.specs.declared.fault.NetFault.{NetFault}
use Rattle.kex_core.specs.declared.fault.NetFault.TheVariants.{Size, BadNext, BadStart, BadCap, Overfull, OverfullExit}
use Rattle.kex_core.specs.Nets.{Plan, starts, feeds}
use Rattle.kex_core.specs.Shapes.{Sheet, plan, Sized}

-- P holds of each number below n
abbrev pub Below : ℕ → (ℕ → Type 0) → Type 0
Below n P = (k : ℕ) → k < n → P k

-- k is the first number below n of which P fails
abbrev pub IsFirst : ℕ → (ℕ → Type 0) → ℕ → Type 0
IsFirst n P k = (k < n) × (P k → ⊥) × Below k P

-- the next of stage j is a later stage or Exit
abbrev pub NextFits : Plan → ℕ → Type 0
NextFits net j = (j < net.next j) × (net.next j ≤ net.stages)

-- p starts at a stage or at Exit
abbrev pub StartFits : Plan → ℕ → Type 0
StartFits net p = net.start p ≤ net.stages

-- stage j admits somebody
abbrev pub CapFits : Plan → ℕ → Type 0
CapFits net j = 1 ≤ net.cap j

-- no more can come to stage j than its capacity and one
abbrev pub RoomFits : Plan → ℕ → Type 0
RoomFits net j = starts net j + feeds net j ≤ net.cap j + 1

-- this fault tells the first test that fails
abbrev pub Refused : Sheet → NetFault → Type 0
Refused s Size = Sized s → ⊥
Refused s (BadNext j) = Sized s × IsFirst (plan s).stages (NextFits (plan s)) j
Refused s (BadStart p) = Sized s × Below (plan s).stages (NextFits (plan s)) × IsFirst s.parties (StartFits (plan s)) p
Refused s (BadCap j) = Sized s × Below (plan s).stages (NextFits (plan s)) × Below s.parties (StartFits (plan s)) × IsFirst (plan s).stages (CapFits (plan s)) j
Refused s (Overfull j) = Sized s × Below (plan s).stages (NextFits (plan s)) × Below s.parties (StartFits (plan s)) × Below (plan s).stages (CapFits (plan s)) × IsFirst (plan s).stages (RoomFits (plan s)) j
Refused s OverfullExit = Sized s × Below (plan s).stages (NextFits (plan s)) × Below s.parties (StartFits (plan s)) × Below (plan s).stages (CapFits (plan s)) × Below (plan s).stages (RoomFits (plan s)) × (s.width < starts (plan s) (plan s).stages + feeds (plan s) (plan s).stages)
