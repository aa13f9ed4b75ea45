-- How a client hears the reply to one line.
use Rattle.std.specs.Prelude.{◌≡◌, ℕ, ◌<◌, Bool, true, false, ◌⊎◌, List, [], ◌∷◌, ◌++◌, flat_map, length, cond, sum_by, Result, Ok, Err}
use Rattle.line_protocol.specs.Streams.{Begins, Held, IsOpen, IsOverlong, waiting}
use Rattle.session_outside.specs.Talk.{Event, Follows, Heard, Silence, Ended, ReadFault, Wrote, WriteFault}
use Rattle.client_talk.specs.declared.lost.Lost.{Lost}
use Rattle.client_talk.specs.declared.lost.Lost.TheVariants.{Fault, Closed, Silent, Garbled, Unasked}
use Rattle.client_talk.specs.declared.hearing.Step.{Step}
use Rattle.client_talk.specs.declared.hearing.Step.TheVariants.{Reply, More, Quiet}

-- the bytes that an event brought
abbrev pub heard_in : Event → List ℕ
heard_in (Heard piece) = piece
heard_in Silence = []
heard_in Ended = []
heard_in ReadFault = []
heard_in (Wrote piece) = []
heard_in (WriteFault part) = []

-- the bytes that an event took to the daemon
abbrev pub written_in : Event → List ℕ
written_in (Heard piece) = []
written_in Silence = []
written_in Ended = []
written_in ReadFault = []
written_in (Wrote piece) = piece
written_in (WriteFault part) = part

abbrev pub heard_of : List Event → List ℕ
heard_of events = flat_map heard_in events

abbrev pub written_of : List Event → List ℕ
written_of events = flat_map written_in events

abbrev pub is_silence : Event → Bool
is_silence (Heard piece) = false
is_silence Silence = true
is_silence Ended = false
is_silence ReadFault = false
is_silence (Wrote piece) = false
is_silence (WriteFault part) = false

abbrev pub silences_in : List Event → ℕ
silences_in events = sum_by (λ e. cond (is_silence e) 1 0) events

abbrev pub is_fault : Event → Bool
is_fault (Heard piece) = false
is_fault Silence = false
is_fault Ended = false
is_fault ReadFault = true
is_fault (Wrote piece) = false
is_fault (WriteFault part) = true

-- bytes that are no single line: too many without an LF, or more of them behind one
abbrev pub IsGarbled : List ℕ → Type 0
IsGarbled bytes = IsOverlong bytes ⊎ ((line rest : List ℕ) × Begins bytes line rest × (0 < length rest))

-- the events show why no reply came
abbrev pub Shows : Lost → List Event → Type 0
Shows Fault events = (before : List Event) × (e : Event) × (events ≡ before ++ e ∷ []) × (is_fault e ≡ true)
Shows Closed events = (before : List Event) × (events ≡ before ++ Ended ∷ [])
Shows Silent events = (before : List Event) × (later : List Event) × (events ≡ before ++ later) × (silences_in later ≡ 30)
Shows Garbled events = IsGarbled (heard_of events)
Shows Unasked events = (before : List Event) × (piece : List ℕ) × (events ≡ before ++ Heard piece ∷ [])

-- nothing was written in the events, and the bytes that were heard are this line with its LF
pub record Replies (events : List Event) (line : List ℕ) : Type 0 where
  pub unwritten : written_of events ≡ []
  pub heard : Begins (heard_of events) line []

-- what one read says
abbrev pub StepSays : Event → Held → Held → Result Step Lost → Type 0
StepSays e old new (Ok Reply) = (written_in e ≡ []) × Begins (waiting old ++ heard_in e) new.bytes []
StepSays e old new (Ok More) = (written_in e ≡ []) × (is_silence e ≡ false) × (0 < length (heard_in e)) × (waiting new ≡ waiting old ++ heard_in e) × (new.over ≡ false) × IsOpen (waiting new)
StepSays e old new (Ok Quiet) = (e ≡ Silence) × (new ≡ old)
StepSays e old new (Err Fault) = e ≡ ReadFault
StepSays e old new (Err Closed) = e ≡ Ended
StepSays e old new (Err Silent) = ⊥
StepSays e old new (Err Unasked) = ⊥
StepSays e old new (Err Garbled) = (written_in e ≡ []) × IsGarbled (waiting old ++ heard_in e)

-- for proofs alone: what was heard so far of a reply, with so many silences
pub record IsHearing {X : Type 0} (tells : X → List Event → Type 0) (old new : X) (held : Held) (quiets : ℕ) : Type 0 where
  pub events : List Event
  pub told : Follows tells old new events
  pub unwritten : written_of events ≡ []
  pub heard : heard_of events ≡ waiting held
  pub silent : silences_in events ≡ quiets
  pub fits : held.over ≡ false
  pub still : IsOpen (waiting held)

-- a reply was heard, or the events show why none was
abbrev pub HearsBy : List Event → Result Held Lost → Type 0
HearsBy events (Ok held) = Replies events held.bytes
HearsBy events (Err lost) = (written_of events ≡ []) × Shows lost events

-- what was heard by the events of a talk
abbrev pub HearsReply : {X : Type 0} → (X → List Event → Type 0) → X → X → Result Held Lost → Type 0
HearsReply {X} tells old new result = (events : List Event) × Follows tells old new events × HearsBy events result
