-- How the program's lists are read as a net and as a machine.
use Rattle.std.specs.Prelude.{◌≡◌, ℕ, ◌+◌, ◌<◌, ◌≤◌, ◌^◌, Bool, false, if◌then◌else◌, List, length, slice_index, slice_index_or}
use Rattle.kex_core.specs.declared.place.Place.{Place}
use Rattle.kex_core.specs.declared.place.Place.TheVariants.{Out, Dec, Mark, Look, Spin, Naming, Named, Holding, Clearing, Inc, Unmark}
use Rattle.kex_core.specs.declared.place.Access.{Access}
use Rattle.kex_core.specs.declared.place.Access.TheVariants as access
use Rattle.kex_core.specs.Nets.{Plan, Valid}
use Rattle.kex_core.specs.Worlds.{Machine}
use Rattle.kex_core.specs.Laws.{Kept}
use Rattle.kex_core.specs.declared.limits.TheConstants.{PARTY_LIMIT, STAGE_LIMIT}

-- a net as lists. Its functions are 0 past the lists' ends
pub record Sheet : Type 0 where
  pub parties : ℕ
  pub width : ℕ
  pub caps : List ℕ
  pub nexts : List ℕ
  pub starts : List ℕ

abbrev pub sheet : ℕ → ℕ → List ℕ → List ℕ → List ℕ → Sheet
sheet n m caps next start = record { parties = n; width = m; caps = caps; nexts = next; starts = start }

abbrev pub plan : Sheet → Plan
plan s = record {
  parties = s.parties;
  width = s.width;
  stages = length s.caps;
  cap = λ j. slice_index s.caps j;
  next = λ j. slice_index s.nexts j;
  start = λ p. slice_index s.starts p;
}

-- the sizes that a net may have
pub record Sized (s : Sheet) : Type 0 where
  pub two : 2 ≤ s.parties
  pub parties : s.parties ≤ PARTY_LIMIT
  pub wide : 1 ≤ s.width
  pub width : s.width ≤ s.parties
  pub stages : length s.caps ≤ STAGE_LIMIT
  pub nexts : length s.nexts ≡ length s.caps
  pub starts : length s.starts ≡ s.parties

-- the lists of a net: they have their sizes, the net is valid, and the capacities fit 32 bits
pub record IsNet (s : Sheet) : Type 0 where
  pub sized : Sized s
  pub valid : Valid (plan s)
  pub caps : (j : ℕ) → slice_index s.caps j < 2 ^ 32

abbrev pub number_of : Bool → ℕ
number_of b = (if b then 1 else 0)

-- a world as lists
pub record State : Type 0 where
  pub net : Sheet
  pub places : List Place
  pub counters : List ℕ
  pub spin_words : List ℕ
  pub bits : List Bool
  pub cards : List Bool

abbrev pub machine_of : List Place → List ℕ → List ℕ → List Bool → List Bool → Machine
machine_of places counters spin_words bits cards = record {
  x = λ j. slice_index counters j;
  q = λ j. slice_index spin_words j;
  bit = λ i. number_of (slice_index_or bits i false);
  card = λ s. number_of (slice_index_or cards s false);
  place = λ p. slice_index_or places p Out;
}

abbrev pub machine : State → Machine
machine s = machine_of s.places s.counters s.spin_words s.bits s.cards

pub record IsWorld (s : State) : Type 0 where
  pub net : IsNet s.net
  pub kept : Kept (plan s.net) (machine s)
  pub places : length s.places ≡ s.net.parties
  pub counters : length s.counters ≡ length s.net.caps
  pub spin_words : length s.spin_words ≡ length s.net.caps
  pub bits : length s.bits + 1 ≡ s.net.width
  pub cards : length s.cards ≡ s.net.width

-- there is a word for the access of this place, in so many of each
abbrev pub HasWord : ℕ → ℕ → ℕ → Place → Type 0
HasWord s b c Out = Unit {0}
HasWord s b c (Dec j) = j < s
HasWord s b c (Mark j) = j < s
HasWord s b c (Look j) = j < s
HasWord s b c (Spin j) = j < s
HasWord s b c (Naming i) = i < b
HasWord s b c (Named i) = i < c
HasWord s b c (Holding i) = i < c
HasWord s b c (Clearing i) = i < b
HasWord s b c (Inc j) = j < s
HasWord s b c (Unmark j) = j < s

abbrev pub access_of : Place → Access
access_of Out = access.Dec 0
access_of (Dec j) = access.Dec j
access_of (Mark j) = access.Mark j
access_of (Look j) = access.Look j
access_of (Spin j) = access.Spin j
access_of (Naming i) = access.TestSet i
access_of (Named s) = access.CardOut s
access_of (Holding s) = access.CardIn s
access_of (Clearing s) = access.Clear s
access_of (Inc j) = access.Inc j
access_of (Unmark j) = access.Unmark j
