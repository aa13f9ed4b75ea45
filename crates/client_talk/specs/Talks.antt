-- What is said in a talk of requests and replies.
use Rattle.std.specs.Prelude.{◌≡◌, ℕ, false, List, [], ◌∷◌, ◌++◌, take, codes, Err, string_bytes}
use Rattle.session_outside.specs.Talk.{Event, Follows, Wrote}
use Rattle.client_talk.specs.Hearing.{Replies, Shows, written_of}
use Rattle.client_talk.specs.Numbers.{IsNoGlance}
use Rattle.client_talk.specs.Replies.{accepts}
use Rattle.client_talk.specs.Requests.{line_judged}
use Rattle.client_talk.specs.declared.cause.Cause.{Cause}
use Rattle.client_talk.specs.declared.cause.Cause.TheVariants.{Lost, Refused, NoNumbers, NoRequest, TooLong, BadWord, NoMemory, WriteFault}
use Rattle.client_talk.specs.declared.cause.Refusal.{Refusal}
use Rattle.client_talk.specs.declared.client.Client.{Client}

-- a line was written, and then the reply to it was heard
pub record Answered (line reply : List ℕ) (events : List Event) : Type 0 where
  pub hearing : List Event
  pub order : events ≡ Wrote (line ++ 10 ∷ []) ∷ hearing
  pub replied : Replies hearing reply

-- these lines were written, each behind the reply to the one before it, and these are their replies
abbrev pub Went : List (List ℕ) → List (List ℕ) → List Event → Type 0
Went [] [] events = events ≡ []
Went [] (reply ∷ replies) events = ⊥
Went (line ∷ lines) [] events = ⊥
Went (line ∷ lines) (reply ∷ replies) events =
    (now : List Event) × (later : List Event) × (events ≡ now ++ later) × Answered line reply now × Went lines replies later

-- a reply isn't what its request wants
pub record IsRefusal (line : List ℕ) (r : Refusal) (events : List Event) : Type 0 where
  pub answered : Answered line r.reply.bytes events
  pub asked : string_bytes r.request.line ≡ line ++ 10 ∷ []
  pub unwanted : accepts r.request.want r.reply.bytes ≡ false

-- why a talk stopped at a line, by the events since the line before it
abbrev pub Why : List ℕ → Cause → List Event → Type 0
Why line (Lost lost) events = Shows lost events
Why line (Refused r) events = IsRefusal line r events
Why line (NoNumbers reply) events = Answered line reply.bytes events × IsNoGlance reply.bytes
Why line (NoRequest fault) events = line_judged line ≡ Err (NoRequest fault)
Why line TooLong events = line_judged line ≡ Err TooLong
Why line (BadWord bad) events = ⊥
Why line NoMemory events = Unit {0}
Why line WriteFault events = ⊥

-- a talk stopped at a line for this cause; at most a prefix of the line was written
pub record Halts {X : Type 0} (tells : X → List Event → Type 0) (old new : X) (line : List ℕ) (cause : Cause) : Type 0 where
  pub events : List Event
  pub told : Follows tells old new events
  pub front : (k : ℕ) × (written_of events ≡ take k (line ++ 10 ∷ []))
  pub why : Why line cause events

-- the events of a talk of these lines, all of which were answered
abbrev pub Spoke : {X : Type 0} → (X → List Event → Type 0) → X → X → List (List ℕ) → List (List ℕ) → Type 0
Spoke {X} tells old new lines replies = (events : List Event) × Follows tells old new events × Went lines replies events

-- a talk of these lines stopped for this cause: the lines before the one at which it stopped were answered
pub record Stopped {X : Type 0} (tells : X → List Event → Type 0) (old new : X) (lines : List (List ℕ)) (cause : Cause) : Type 0 where
  pub done : List (List ℕ)
  pub line : List ℕ
  pub replies : List (List ℕ)
  pub front : (k : ℕ) × (take k lines ≡ done ++ line ∷ [])
  pub at : X
  pub went : Spoke tells old at done replies
  pub halts : Halts tells at new line cause

-- The lines of a client.

abbrev pub hello_line : Client → List ℕ
hello_line c = codes "HELLO " ++ c.user.now ++ codes " " ++ c.host.now ++ codes " " ++ c.display.now ++ codes " " ++ c.project.now

abbrev pub glance_line : List ℕ → List ℕ
glance_line feature = codes "GLANCE " ++ feature

abbrev pub checkout_line : List ℕ → List ℕ → List ℕ
checkout_line feature version = codes "CHECKOUT " ++ feature ++ codes " " ++ version

abbrev pub queue_line : List ℕ → List ℕ → List ℕ
queue_line feature version = codes "QUEUE " ++ feature ++ codes " " ++ version

abbrev pub beat_line : List ℕ → List ℕ
beat_line feature = codes "BEAT " ++ feature

abbrev pub checkin_line : List ℕ → List ℕ
checkin_line feature = codes "CHECKIN " ++ feature

abbrev pub reread_line : List ℕ → List ℕ
reread_line number = codes "REREAD " ++ number

abbrev pub shutdown_line : List ℕ
shutdown_line = codes "SHUTDOWN"
