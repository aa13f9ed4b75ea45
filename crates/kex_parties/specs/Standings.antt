-- Where parties stand, and what a step of one is.
use Rattle.std.specs.Prelude.{◌≡◌, ℕ, ◌<◌, List, Option, None, Some, slice_get}
use Rattle.kex_core.specs.declared.place.Place.{Place}
use Rattle.kex_words.specs.Passes.{Pass, TableNet, unused_pass}
use Rattle.kex_words.specs.Moves.{Moved}

-- a table with all its parties: of each its pass, in the order of their numbers
pub record PartiesView : Type 0 where
  pub table : TableNet
  pub parties : List (Option Pass)

-- of which table a party is
abbrev pub table_in : Option Pass → Option TableNet
table_in None = None
table_in (Some p) = Some p.table

-- a party of this table
abbrev pub IsOf : TableNet → Option Pass → Type 0
IsOf t o = table_in o ≡ Some t

-- a party that stands at this place
abbrev pub IsAt : Option Pass → Place → Type 0
IsAt None a = Unit {0}
IsAt (Some p) a = a ≡ p.place

-- a party, and the same after the one access that was due
abbrev pub Moves : Option Pass → Option Pass → Type 0
Moves None q = ⊥
Moves (Some p) None = ⊥
Moves (Some p) (Some q) = Moved p q

-- all parties are Out and were never used
abbrev pub AreRested : PartiesView → Type 0
AreRested v = (i : ℕ) → i < v.table.net.parties → slice_get v.parties i ≡ Some (Some (unused_pass v.table i))
