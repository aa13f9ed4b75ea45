-- What the traits of the outside tell.
use Rattle.std.specs.Prelude.{◌≡◌, ℕ, ◌-◌, ◌^◌, ◌<◌, ◌≤◌, Bool, true, false, List, ◌++◌, take, Result, Ok, Err}
use Rattle.session_outside.specs.declared.link.Got.{Got}
use Rattle.session_outside.specs.declared.link.Got.TheVariants.{Bytes, End, Quiet, Failed}
use Rattle.session_outside.specs.declared.link.LinkFailed.{LinkFailed}

-- one event of a link's talk
pub data Event : Type 0 where
  Heard : (piece : List ℕ) → Event
  Silence : Event
  Ended : Event
  ReadFault : Event
  Wrote : (piece : List ℕ) → Event
  WriteFault : (part : List ℕ) → Event

-- what stood for a list stands for it with more at its end
abbrev pub Follows : {X E : Type 0} → (X → List E → Type 0) → X → X → List E → Type 0
Follows {X} {E} stands old new more = (told : List E) → stands old told → stands new (told ++ more)

-- a count rose, or stands at its counter's last value
abbrev pub HasRisen : ℕ → ℕ → Type 0
HasRisen old new = new < 2 ^ 64 - 1 → old < new

-- a count never falls, it rises where the test is true, and else it stands still
pub record Counted (test : Bool) (old new : ℕ) : Type 0 where
  pub never_falls : old ≤ new
  pub rises : test ≡ true → HasRisen old new
  pub stands : test ≡ false → new ≡ old

-- the event of a read
abbrev pub read_event : Got → List ℕ → Event
read_event (Bytes n) buffer = Heard (take n buffer)
read_event End buffer = Ended
read_event Quiet buffer = Silence
read_event Failed buffer = ReadFault

abbrev pub IsWithin : Got → ℕ → Type 0
IsWithin (Bytes n) room = (0 < n) × (n ≤ room)
IsWithin End room = Unit {0}
IsWithin Quiet room = Unit {0}
IsWithin Failed room = Unit {0}

abbrev pub is_failed : Got → Bool
is_failed (Bytes n) = false
is_failed End = false
is_failed Quiet = false
is_failed Failed = true

abbrev pub is_quiet : Got → Bool
is_quiet (Bytes n) = false
is_quiet End = false
is_quiet Quiet = true
is_quiet Failed = false

-- the event of a write, of which this many bytes were taken
abbrev pub write_event : Result (Unit {0}) LinkFailed → List ℕ → ℕ → Event
write_event (Ok u) piece taken = Wrote piece
write_event (Err e) piece taken = WriteFault (take taken piece)
