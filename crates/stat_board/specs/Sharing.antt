-- The rule of a board's table of readers, and what its steps tell.
use Rattle.std.specs.Prelude.{◌≡◌, ◌≢◌, ℕ, ◌<◌, List, [], ◌∷◌, length, slice_index, Option, IfSome}
use mathlib.Core.Option.{some}
use lib.ListN.{get_elem?}
use Rattle.atomic_table.specs.Table.{State, Me, Step, rest}
use Rattle.atomic_table.specs.Seated.{TableId}
use Rattle.stat_board.specs.declared.sharing.TheConstants.{PLACES}
use Rattle.stat_board.specs.Fronts.{Front}
use Rattle.stat_board.specs.Rule.{IsTold}

-- a seat is at a table of readers, and has no slot
pub record IsSeated {S : Type 0} (table seat : TableId) (held : List (ℕ × S)) : Type 0 where
  pub here : seat ≡ table
  pub words : table.words ≡ PLACES
  pub slots : table.slots ≡ PLACES
  pub rests : held ≡ []

module _ {R : Type 0} (knows : R → Option Front) where
  -- the slot has no reader, or one that was told of the board that f is of
  abbrev pub IsServing : Front → Option R → Type 0
  IsServing f slot = IfSome slot (λ r. IsTold f (knows r))

  -- the rule of the table of a board that opened with f
  pub record IsShared (f : Front) (s : State (Option R) Front) : Type 0 where
    pub wide : length s.words ≡ length s.homes
    pub free : (i : ℕ) → i < length s.homes → slice_index s.words i ≡ 0 → (x : Option R) × (get_elem? s.homes i ≡ some (some x))
    pub serving : (i : ℕ) (x : Option R) → get_elem? s.homes i ≡ some (some x) → IsServing f x
    pub seats : (j : ℕ) (g : Front) → get_elem? s.views j ≡ some g → g ≡ f

  -- the slot was taken where its word was 0, and else nothing has changed
  abbrev pub takes_slot : Step (Option R) → Me (Option R) Front → ℕ → Me (Option R) Front → Type 0
  takes_slot st m n m' = (n ≡ 0 → (x : Option R) × (m' ≡ (m.0, (st.word, x) ∷ m.1)) × IsServing m.0 x) × (n ≢ 0 → m' ≡ m)

module _ {S : Type 0} where
  -- the slot that was taken last is at home again
  abbrev pub gives_slot : Step S → Me S Front → ℕ → Me S Front → Type 0
  gives_slot st m n m' = m' ≡ (m.0, rest m.1)
