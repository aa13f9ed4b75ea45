-- The talks that a trial's client can have had.
use Rattle.std.specs.Prelude.{◌≡◌, ◌⊎◌, ℕ, ◌-◌, ◌^◌, ◌<◌, min, Bool, true, false, nat_lt, List, [], ◌∷◌, ◌++◌, length, count_by}
use Rattle.session_outside.specs.Talk.{Event, Heard, Silence, Ended, ReadFault, Wrote, WriteFault}
use Rattle.trial_link.specs.Stages.{is_granted, left_of, line_of, played_after, stage_after}
use Rattle.trial_link.specs.declared.call.Call.{Call}
use Rattle.trial_link.specs.declared.call.Call.TheVariants.{Hello}
use Rattle.trial_link.specs.declared.call.Stage.{Stage}
use Rattle.trial_link.specs.declared.call.Stage.TheVariants.{Gives, Awaits, Over}

-- a stage at which the client doesn't give a line
abbrev pub is_silent : Stage → Bool
is_silent (Gives call) = false
is_silent (Awaits call) = true
is_silent Over = true

-- a stage at which it doesn't wait for a reply
abbrev pub is_unasked : Stage → Bool
is_unasked (Gives call) = true
is_unasked (Awaits call) = false
is_unasked Over = true

-- The client of a number, of so many rounds, can have had this talk: where it stands then, what is left of the line that it gives, and how many rounds it has counted.
pub data Plays (number rounds : ℕ) : Stage → List ℕ → ℕ → List Event → Type 0 where
  opens : Plays number rounds (Gives Hello) (line_of number Hello) 0 []
  -- a piece of the line was read, and more of it is left
  gives : {call : Call} {played : ℕ} {talk : List Event} (piece rest : List ℕ) → Plays number rounds (Gives call) (piece ++ rest) played talk → 0 < length piece → 0 < length rest
      → Plays number rounds (Gives call) rest played (talk ++ Heard piece ∷ [])
  -- the last piece of it was
  gave : {call : Call} {played : ℕ} {talk : List Event} (piece : List ℕ) → Plays number rounds (Gives call) piece played talk → 0 < length piece
      → Plays number rounds (Awaits call) [] played (talk ++ Heard piece ∷ [])
  -- the reply to the line came
  hears : {call : Call} {played : ℕ} {talk : List Event} (reply : List ℕ) (next : Stage) → Plays number rounds (Awaits call) [] played talk → next ≡ stage_after call reply (nat_lt (played_after call played) rounds)
      → Plays number rounds next (left_of number next 0) (played_after call played) (talk ++ Wrote reply ∷ [])
  -- it was read before a reply came, or once more at the end
  ends : {stage : Stage} {left : List ℕ} {played : ℕ} {talk : List Event} → Plays number rounds stage left played talk → is_silent stage ≡ true
      → Plays number rounds Over [] played (talk ++ Ended ∷ [])
  -- something was written that is no reply
  stops : {stage : Stage} {left : List ℕ} {played : ℕ} {talk : List Event} (piece : List ℕ) → Plays number rounds stage left played talk → is_unasked stage ≡ true
      → Plays number rounds Over [] played (talk ++ Wrote piece ∷ [])

-- whether an event is a written piece that begins with GRANTED
abbrev pub is_grant : Event → Bool
is_grant (Heard piece) = false
is_grant Silence = false
is_grant Ended = false
is_grant ReadFault = false
is_grant (Wrote piece) = is_granted piece
is_grant (WriteFault part) = false

-- how many written pieces of a talk begin with GRANTED
abbrev pub granted_in : List Event → ℕ
granted_in talk = count_by is_grant talk

-- a link stands for this talk: its client can have had it, and it counted the pieces that begin with GRANTED, up to its counter's last value
abbrev pub HasTold : ℕ → ℕ → Stage → ℕ → ℕ → ℕ → List Event → Type 0
HasTold number rounds stage given played grants talk = Plays number rounds stage (left_of number stage given) played talk × (grants ≡ min (granted_in talk) (2 ^ 64 - 1))

-- the note of what a client was made with, its number and its rounds: a failed write of the two, which no client's talk has
abbrev pub note_of : ℕ → ℕ → List Event
note_of number rounds = WriteFault (number ∷ rounds ∷ []) ∷ []

-- what stands for a talk stands for it behind that note too
abbrev pub Noted : ℕ → ℕ → (List Event → Type 0) → List Event → Type 0
Noted number rounds stands told = stands told ⊎ ((talk : List Event) × (told ≡ note_of number rounds ++ talk) × stands talk)

-- the client of this number, of so many rounds, can have had this talk
pub record IsTalk (number rounds : ℕ) (talk : List Event) : Type 0 where
  pub stage : Stage
  pub left : List ℕ
  pub played : ℕ
  pub plays : Plays number rounds stage left played talk
