-- How the seats are kept.
use Rattle.std.specs.Prelude.{◌≡◌, ℕ, ◌≤◌, Bool, true, false, ◌&&◌, ◌==◌, suc, List, [], ◌∷◌, Option, None, Some, length, slice_index_or}
use Rattle.options_machine.specs.declared.rows.Holder.{Holder}
use Rattle.seat_rows.specs.Seats.{SeatList}

-- who holds the seat of a row, in which the last to hold it stays behind
abbrev pub held_by : Bool → Option Holder → Option Holder
held_by true last = last
held_by false last = None

-- the holders in rows, one after another
abbrev pub holders_in : List (Option Holder) → List Holder
holders_in [] = []
holders_in (None ∷ rows) = holders_in rows
holders_in (Some h ∷ rows) = h ∷ holders_in rows

-- whether each holder stands in the row of its party, where the first row is of this one
abbrev pub are_rows_from : ℕ → List (Option Holder) → Bool
are_rows_from first [] = true
are_rows_from first (None ∷ rows) = are_rows_from (suc first) rows
are_rows_from first (Some h ∷ rows) = h.party == first && are_rows_from (suc first) rows

-- what is seen of rows
abbrev pub seat_list : List (Option Holder) → SeatList
seat_list rows = record { parties = length rows; holders = holders_in rows }

-- each holder has a mark, and was not heard before it
abbrev pub AreMarked : List (Option Holder) → List (Option ℕ) → Type 0
AreMarked rows marks = (party : ℕ) (h : Holder) → slice_index_or rows party None ≡ Some h → (mark : ℕ) × (slice_index_or marks party None ≡ Some mark) × (mark ≤ h.beat)

-- each holder stands in the row of its party, and their number is kept; each has a mark
pub record AreKept (rows : List (Option Holder)) (held : ℕ) (marks : List (Option ℕ)) : Type 0 where
  pub in_place : are_rows_from 0 rows ≡ true
  pub few : length rows ≤ 256
  pub number : held ≡ length (holders_in rows)
  pub long : length marks ≡ length rows
  pub marked : AreMarked rows marks
