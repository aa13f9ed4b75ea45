-- What is printed of an errand.
use Rattle.std.specs.Prelude.{◌≡◌, ℕ, List, [], ◌∷◌, ◌++◌, Option, Vec, Result, Ok, Err}
use Rattle.std.specs.declared.alloc.Global.{Global}
use Rattle.line_protocol.specs.Streams.{Held}
use Rattle.outside.specs.Told.{TakesPrefix, held_after}
use Rattle.client_talk.specs.declared.cause.Cause.{Cause}
use Rattle.client_talk.specs.declared.cause.Cause.TheVariants.{NoMemory, WriteFault}

-- a reply as a line; memory may be wanted for it
abbrev pub Lines : Result Held Cause → Result (Vec ℕ Global) Cause → Type 0
Lines (Ok held) (Ok text) = text.items ≡ held.bytes ++ 10 ∷ []
Lines (Ok held) (Err cause) = cause ≡ NoMemory
Lines (Err cause) (Ok text) = ⊥
Lines (Err cause) (Err same) = same ≡ cause

-- a text was written whole, or a prefix of it where the sink's count of faults rose; where there is none, nothing was
abbrev pub Prints : Type 0 → Option (List ℕ) → Option (List ℕ) → Result (Vec ℕ Global) Cause → Result (Unit {0}) Cause → Type 0
Prints Failed old new (Ok text) (Ok u) = new ≡ held_after old text.items
Prints Failed old new (Ok text) (Err cause) = (cause ≡ WriteFault) × Failed × TakesPrefix old new text.items
Prints Failed old new (Err cause) (Ok u) = ⊥
Prints Failed old new (Err cause) (Err same) = (same ≡ cause) × (new ≡ old)

-- a reply was printed as a line
abbrev pub PrintsReply : Type 0 → Option (List ℕ) → Option (List ℕ) → Result Held Cause → Result (Unit {0}) Cause → Type 0
PrintsReply Failed old new said result = (text : Result (Vec ℕ Global) Cause) × Lines said text × Prints Failed old new text result
