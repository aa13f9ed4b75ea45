-- Passes that were taken in for the close of a desk's seats.
use Rattle.std.specs.Prelude.{◌≡◌, ◌≤◌, ℕ, List, [], ◌∷◌, ◌++◌, reverse, None, Some, All, vec_capacity}
use Rattle.atomic_table.specs.Seated.{TableId}
use Rattle.kex_gate.specs.Passes.{Guest, seats_of, session_numbers}
use Rattle.desk_seats.specs.declared.gathering.Gathered.{Gathered}
use Rattle.desk_seats.specs.declared.gathering.Gathered.TheVariants.{Nothing, Plain, Gated}
use Rattle.desk_seats.specs.Views.{SeatsView, gated_seats, parties_of, plain_seats}

-- of which seats they are, their numbers, the last first, and the numbers that they took
pub record SeatsTaken : Type 0 where
  pub table : SeatsView
  pub numbers : List ℕ
  pub got : List ℕ

-- the numbers that these sessions took
abbrev pub got_by : List Guest → List ℕ
got_by [] = []
got_by (g ∷ gs) = seats_of g.visits ++ got_by gs

abbrev pub numbers_in : Gathered → List ℕ
numbers_in Nothing = []
numbers_in (Plain g) = g.numbers
numbers_in (Gated passes) = reverse (session_numbers passes.items)

abbrev pub got_in : Gathered → List ℕ
got_in Nothing = []
got_in (Plain g) = g.got
got_in (Gated passes) = got_by passes.items

-- passes of these seats, and behind a gate there is room for those of all sessions
abbrev pub AreTaken : SeatsView → Gathered → Type 0
AreTaken v Nothing = v.gate ≡ None
AreTaken v (Plain g) = v ≡ plain_seats g.table
AreTaken v (Gated passes) = All (λ (g : Guest). gated_seats g.gate ≡ v) passes.items × (parties_of v ≤ vec_capacity passes) × ((id : TableId) × (v.gate ≡ Some id))
