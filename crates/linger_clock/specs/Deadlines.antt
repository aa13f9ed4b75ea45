-- The deadlines that wait in a clock, in their order, and what becomes of them.
use Rattle.std.specs.Prelude.{ℕ, ◌≤◌, Bool, not, ◌||◌, ◌&&◌, List, [], ◌∷◌, ◌++◌, Option, length, filter, find, IsTrue, IsNone, ◌==◌, nat_lt, nat_le}
use Rattle.std.specs.Option.{option_map}
use Rattle.linger_clock.specs.declared.Deadline.{Deadline}

-- what a contract sees of a clock: how many deadlines it has room for, and those that wait, the first to fall due first
pub record Deadlines : Type 0 where
  pub room : ℕ
  pub pairs : List Deadline

-- a falls due before b: it is earlier, or they fall due at one moment and its owner has the smaller number
abbrev pub is_before : Deadline → Deadline → Bool
is_before a b = nat_lt a.until b.until || (a.until == b.until && nat_lt a.owner b.owner)

-- whether the deadline is of this owner
abbrev pub is_of : ℕ → Deadline → Bool
is_of owner d = d.owner == owner

-- whether the deadline has come at this moment
abbrev pub is_due : ℕ → Deadline → Bool
is_due now d = nat_le d.until now

-- the moment of the owner's deadline, if it has one
abbrev pub until_of : ℕ → List Deadline → Option ℕ
until_of owner ds = option_map (λ d. d.until) (find (is_of owner) ds)

-- the deadlines of all but this owner, in their order
abbrev pub without : ℕ → List Deadline → List Deadline
without owner ds = filter (λ d. not (is_of owner d)) ds

-- d at its place in the order: those before it, then d, then those after it
abbrev pub with_deadline : Deadline → List Deadline → List Deadline
with_deadline d ds = filter (λ e. is_before e d) ds ++ d ∷ filter (λ e. is_before d e) ds

-- each of the deadlines comes after d
abbrev pub AllAfter : Deadline → List Deadline → Type 0
AllAfter d [] = Unit {0}
AllAfter d (e ∷ es) = IsTrue (is_before d e) × AllAfter d es

-- each deadline comes before all later ones
abbrev pub IsInOrder : List Deadline → Type 0
IsInOrder [] = Unit {0}
IsInOrder (d ∷ ds) = AllAfter d ds × IsInOrder ds

-- no owner has two deadlines
abbrev pub HasDistinctOwners : List Deadline → Type 0
HasDistinctOwners [] = Unit {0}
HasDistinctOwners (d ∷ ds) = IsNone (until_of d.owner ds) × HasDistinctOwners ds

-- what holds of every clock
pub record IsClock (c : Deadlines) : Type 0 where
  pub in_order : IsInOrder c.pairs
  pub distinct : HasDistinctOwners c.pairs
  pub within : length c.pairs ≤ c.room
