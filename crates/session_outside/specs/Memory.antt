-- Forms in memory.
use Rattle.std.specs.Prelude.{◌≡◌, ℕ, ◌+◌, ◌-◌, ◌<◌, Bool, true, List, [], ◌∷◌, length, take, drop, min, slice_index_or, ◌⊎◌}
use Rattle.session_outside.specs.Talk.{Event, Heard, Silence, Ended, ReadFault, Wrote, WriteFault}
use Rattle.session_outside.specs.declared.talk.Mark.{Mark}
use Rattle.session_outside.specs.declared.talk.Mark.TheVariants as marks

-- what a list gives whose last member comes again and again, as far as place `at`
pub record Repeats {X : Type 0} (items : List X) (at : ℕ) (given : List X) : Type 0 where
  pub place : at ≡ min (length given) (length items - 1)
  pub each : (i : ℕ) (d : X) → i < length given → slice_index_or given i d ≡ slice_index_or items (min i (length items - 1)) d

-- the bytes of a mark
abbrev pub size : Mark → ℕ
size (marks.Heard n) = n
size marks.Silence = 0
size marks.Ended = 0
size marks.ReadFault = 0
size (marks.Wrote n) = n
size (marks.WriteFault n) = n

abbrev pub event : Mark → List ℕ → Event
event (marks.Heard n) bytes = Heard bytes
event marks.Silence bytes = Silence
event marks.Ended bytes = Ended
event marks.ReadFault bytes = ReadFault
event (marks.Wrote n) bytes = Wrote bytes
event (marks.WriteFault n) bytes = WriteFault bytes

-- the talk that marks and bytes keep
abbrev pub talk : List Mark → List ℕ → List Event
talk [] bytes = []
talk (m ∷ ms) bytes = event m (take (size m) bytes) ∷ talk ms (drop (size m) bytes)

abbrev pub sizes : List Mark → ℕ
sizes [] = 0
sizes (m ∷ ms) = size m + sizes ms

-- It stands for the talk that it keeps, or, where its room was used up, for any.
abbrev pub KeepsTalk : Bool → List Mark → List ℕ → List Event → Type 0
KeepsTalk lost ms bytes told = (lost ≡ true) ⊎ (told ≡ talk ms bytes)
