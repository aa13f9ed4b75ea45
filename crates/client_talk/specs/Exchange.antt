-- One request and its reply.
use Rattle.std.specs.Prelude.{◌≡◌, ℕ, true, List, ◌∷◌, take, Result, Ok, Err}
use Rattle.line_protocol.specs.Streams.{Held}
use Rattle.session_outside.specs.Talk.{Event, Follows, Wrote}
use Rattle.client_talk.specs.Hearing.{Replies, Shows, written_of}
use Rattle.client_talk.specs.Replies.{accepts}
use Rattle.client_talk.specs.Talks.{Answered, Halts}
use Rattle.client_talk.specs.declared.cause.Cause.{Cause}
use Rattle.client_talk.specs.declared.lost.Lost.{Lost}
use Rattle.client_talk.specs.declared.want.Want.{Want}

abbrev pub SaysBy : List ℕ → List Event → Result Held Lost → Type 0
SaysBy line events (Ok held) = (hearing : List Event) × (events ≡ Wrote line ∷ hearing) × Replies hearing held.bytes
SaysBy line events (Err lost) = ((k : ℕ) × (written_of events ≡ take k line)) × Shows lost events

-- a line was written, and a reply heard or not
abbrev pub Says : {X : Type 0} → (X → List Event → Type 0) → X → X → List ℕ → Result Held Lost → Type 0
Says {X} tells old new line result = (events : List Event) × Follows tells old new events × SaysBy line events result

-- the request of these words was asked: its reply came, which is what it wants, or the talk stopped at it
abbrev pub Asks : {X : Type 0} → (X → List Event → Type 0) → X → X → List ℕ → Want → Result Held Cause → Type 0
Asks {X} tells old new words want (Ok held) = (events : List Event) × Follows tells old new events × Answered words held.bytes events × (accepts want held.bytes ≡ true)
Asks {X} tells old new words want (Err cause) = Halts tells old new words cause
