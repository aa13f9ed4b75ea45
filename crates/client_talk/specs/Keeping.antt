-- The turns of a client that stands at a desk.
use Rattle.std.specs.Prelude.{◌≡◌, ℕ, ◌-◌, ◌||◌, Bool, true, false, nat_le, nat_lt, if◌then◌else◌, List, [], ◌∷◌, ◌++◌, Option, None, Some, Result, Ok, Err, is_some}
use Rattle.line_protocol.specs.Streams.{Held}
use Rattle.session_outside.specs.Talk.{Event, Follows, Silence}
use Rattle.client_talk.specs.Exchange.{Asks}
use Rattle.client_talk.specs.Hearing.{Shows, written_of}
use Rattle.client_talk.specs.Standing.{beat_want, ends}
use Rattle.client_talk.specs.Talks.{Answered, Halts, beat_line}
use Rattle.client_talk.specs.declared.cause.Cause.{Cause}
use Rattle.client_talk.specs.declared.cause.Cause.TheVariants as causes
use Rattle.client_talk.specs.declared.lost.Lost.{Lost}
use Rattle.client_talk.specs.declared.standing.Standing.{Standing}

-- a BEAT is due so many seconds after the last one, and where the clock went back
abbrev pub is_due : ℕ → ℕ → ℕ → Bool
is_due last now every = nat_lt now last || nat_le every (now - last)

-- a turn: the moment that the clock showed, and the reply to the BEAT that was asked, if one was
pub record Turn : Type 0 where
  pub moment : ℕ
  pub reply : Option (List ℕ)

-- the moment of the last BEAT behind a turn
abbrev pub later : ℕ → Turn → ℕ
later last t = if is_some t.reply then t.moment else last

abbrev pub last_of : ℕ → List Turn → ℕ
last_of last [] = last
last_of last (t ∷ ts) = last_of (later last t) ts

-- a BEAT was asked in just the turns in which it was due; this was the moment of the last one before
abbrev pub AreDue : ℕ → ℕ → List Turn → Type 0
AreDue every last [] = Unit {0}
AreDue every last (t ∷ ts) = (is_some t.reply ≡ is_due last t.moment every) × AreDue every (later last t) ts

-- what was said in a turn: this line, and the reply to it; or nothing for as long as a read waits
abbrev pub SaidIn : List ℕ → Option (List ℕ) → List Event → Type 0
SaidIn line None events = events ≡ Silence ∷ []
SaidIn line (Some reply) events = Answered line reply events

-- what was said in turns, one after another
abbrev pub SaidBy : List ℕ → List Turn → List Event → Type 0
SaidBy line [] events = events ≡ []
SaidBy line (t ∷ ts) events = (now : List Event) × (after : List Event) × (events ≡ now ++ after) × SaidIn line t.reply now × SaidBy line ts after

-- one read while nothing was asked
abbrev pub Rests : {X : Type 0} → (X → List Event → Type 0) → X → X → Result (Unit {0}) Lost → Type 0
Rests {X} tells old new (Ok u) = Follows tells old new (Silence ∷ [])
Rests {X} tells old new (Err lost) = (e : Event) × Follows tells old new (e ∷ []) × (written_of (e ∷ []) ≡ []) × Shows lost (e ∷ [])

-- One turn, in which a BEAT is due or not: the BEAT was answered, and the reply is given where it ends the standing; or nothing
-- came for a while. Or the talk stopped there.
abbrev pub Turns : {X : Type 0} → (X → List Event → Type 0) → X → X → List ℕ → Standing → Bool → Result (Option Held) Cause → Type 0
Turns {X} tells old new feature standing true (Ok None) = (held : Held) × Asks tells old new (beat_line feature) (beat_want standing) (Ok held) × (ends standing held.bytes ≡ false)
Turns {X} tells old new feature standing true (Ok (Some held)) = Asks tells old new (beat_line feature) (beat_want standing) (Ok held) × (ends standing held.bytes ≡ true)
Turns {X} tells old new feature standing true (Err cause) = Halts tells old new (beat_line feature) cause
Turns {X} tells old new feature standing false (Ok None) = Follows tells old new (Silence ∷ [])
Turns {X} tells old new feature standing false (Ok (Some held)) = ⊥
Turns {X} tells old new feature standing false (Err cause) = (lost : Lost) × (cause ≡ causes.Lost lost) × Rests tells old new (Err lost)
