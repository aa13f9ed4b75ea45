-- Slots for entries, and what waits for each.
use Rattle.std.specs.Prelude.{◌≡◌, ℕ, zero, suc, ◌*◌, ◌≤◌, Bool, false, List, [], ◌∷◌, Option, None, Some, IsSome, length, map, slice_index_or, slice_set}
use Rattle.std.specs.Option.{option_map}
use Rattle.lic_types.specs.declared.client.Client.{Client}
use Rattle.lic_types.specs.declared.limits.TheConstants.{LINGER_LIMIT}
use Rattle.linger_clock.specs.Deadlines.{Deadlines, IsClock, until_of}
use Rattle.options_machine.specs.declared.rows.Lingerer.{Lingerer}
use Rattle.options_machine.specs.Decide.{is_left_by}
use Rattle.linger_table.specs.Marks.{mark_of}

-- what is seen of slots: for how many entries there is room, and what each slot has
pub record SlotList : Type 0 where
  pub room : ℕ
  pub slots : List (Option Lingerer)

-- the entries in slots, one after another
abbrev pub entries_in : List (Option Lingerer) → List Lingerer
entries_in [] = []
entries_in (None ∷ slots) = entries_in slots
entries_in (Some l ∷ slots) = l ∷ entries_in slots

-- whether a slot has an entry of the client
abbrev pub slot_is_of : Client → Option Lingerer → Bool
slot_is_of client None = false
slot_is_of client (Some l) = is_left_by client l

-- the slot of the entry at a place among the entries
abbrev pub slot_of : List (Option Lingerer) → ℕ → ℕ
slot_of [] place = 0
slot_of (None ∷ slots) place = suc (slot_of slots place)
slot_of (Some l ∷ slots) zero = 0
slot_of (Some l ∷ slots) (suc place) = suc (slot_of slots place)

-- the slot has an entry
abbrev pub HasEntry : List (Option Lingerer) → ℕ → Type 0
HasEntry slots at = IsSome (slice_index_or slots at None)

-- all slots from this one on are empty
abbrev pub HasNoneFrom : ℕ → List (Option Lingerer) → Type 0
HasNoneFrom from slots = (at : ℕ) → from ≤ at → slice_index_or slots at None ≡ None

-- so many first slots have entries, and so many after them are empty
abbrev pub IsPacked : ℕ → ℕ → List (Option Lingerer) → Type 0
IsPacked zero zero slots = Unit {0}
IsPacked zero (suc empty) [] = ⊥
IsPacked zero (suc empty) (None ∷ slots) = IsPacked zero empty slots
IsPacked zero (suc empty) (Some l ∷ slots) = ⊥
IsPacked (suc full) empty [] = ⊥
IsPacked (suc full) empty (None ∷ slots) = ⊥
IsPacked (suc full) empty (Some l ∷ slots) = IsPacked full empty slots

-- a slot with the entry is emptied, and nothing else changes
abbrev pub LetsSlotGo : SlotList → SlotList → Lingerer → Type 0
LetsSlotGo old new l = (at : ℕ) × (slice_index_or old.slots at None ≡ Some l) × (new ≡ record old { slots = slice_set old.slots at None })

-- the moment until which the entry of a slot waits
abbrev pub until_in : Option Lingerer → Option ℕ
until_in o = option_map (λ (l : Lingerer). l.until) o

-- the mark of a slot: that of its entry's client, or 0
abbrev pub mark_in : Option Lingerer → ℕ
mark_in None = 0
mark_in (Some l) = mark_of l.client

-- each entry waits in the clock under the number of its slot, and nothing else does; each slot has its mark, and the entries are counted
pub record AreTied (slots : List (Option Lingerer)) (marks : List ℕ) (len : ℕ) (clock : Deadlines) : Type 0 where
  pub waits : (at : ℕ) → until_of at clock.pairs ≡ until_in (slice_index_or slots at None)
  pub clock_kept : IsClock clock
  pub clocked : length clock.pairs ≡ length (entries_in slots)
  pub counted : len ≡ length (entries_in slots)
  pub marked : marks ≡ map mark_in slots

-- what is kept of slots: at most twice as many as there is room for entries, all of them with memory
pub record IsKept (room len : ℕ) (slots : List (Option Lingerer)) (marks : List ℕ) (slot_capacity mark_capacity : ℕ) (clock : Deadlines) : Type 0 where
  pub tied : AreTied slots marks len clock
  pub same_room : clock.room ≡ room
  pub long : length slots ≤ 2 * room
  pub slot_space : 2 * room ≤ slot_capacity
  pub mark_space : 2 * room ≤ mark_capacity
  pub few : room ≤ LINGER_LIMIT
