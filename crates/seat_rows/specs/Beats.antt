-- The marks of the parties' beats, and the clock in which they wait.
use Rattle.std.specs.Prelude.{◌≡◌, ℕ, ◌==◌, if◌then◌else◌, Bool, false, List, Option, None, Some, is_some, length, nat_le, nat_lt, slice_index_or}
use Rattle.std.specs.List.{count_by}
use Rattle.linger_clock.specs.Deadlines.{Deadlines, IsClock, until_of}

-- the owner waits for this moment now, or no more, and all others for those for which they waited
pub record ChangesMoment (owner : ℕ) (moment : Option ℕ) (old new : Deadlines) : Type 0 where
  pub moments : (q : ℕ) → until_of q new.pairs ≡ (if q == owner then moment else until_of q old.pairs)
  pub room : new.room ≡ old.room
  pub clock : IsClock new

-- a mark that there may be, or a beat if that comes first
abbrev pub earlier_mark : Option ℕ → ℕ → ℕ
earlier_mark None beat = beat
earlier_mark (Some mark) beat = if nat_lt beat mark then beat else mark

-- whether there is a mark and it has come at this moment
abbrev pub has_come : ℕ → Option ℕ → Bool
has_come over None = false
has_come over (Some mark) = nat_le mark over

-- how many marks have come at this moment
abbrev pub due_marks : ℕ → List (Option ℕ) → ℕ
due_marks over marks = count_by (has_come over) marks

-- each mark stands in the clock under its party, and nothing else does
pub record AreTimed (marks : List (Option ℕ)) (waiting : Deadlines) : Type 0 where
  pub waits : (party : ℕ) → until_of party waiting.pairs ≡ slice_index_or marks party None
  pub clock : IsClock waiting
  pub as_many : length waiting.pairs ≡ count_by is_some marks
  pub room : waiting.room ≡ length marks
