-- What a session read: the lines that it answered, and a rest.
use Rattle.std.specs.Prelude.{◌≡◌, ℕ, ◌≤◌, List, [], ◌∷◌, flat_map, length}
use Rattle.std.specs.List.{AllByRecursion}
use Rattle.line_protocol.specs.Streams.{IsFlat, stream_of}
use Rattle.line_protocol.specs.declared.feeder.TheConstants.{LINE_LIMIT}
use Rattle.session_outside.specs.Talk.{Event, Heard, Silence, Ended, ReadFault, Wrote, WriteFault}
use Rattle.session.specs.Acts.{Act, talk_of}
use Rattle.session.specs.Session.{Session}
use Rattle.session.specs.Table.{Setup}
use Rattle.session.specs.declared.end.SessionEnd.{SessionEnd}

-- the bytes that were heard
abbrev pub heard_in : Event → List ℕ
heard_in (Heard piece) = piece
heard_in Silence = []
heard_in Ended = []
heard_in ReadFault = []
heard_in (Wrote piece) = []
heard_in (WriteFault part) = []

-- all bytes that were heard
abbrev pub heard_of : List Act → List ℕ
heard_of acts = flat_map heard_in (talk_of acts)

-- the line that was written, or what was taken of it
abbrev pub written_in : Event → List (List ℕ)
written_in (Heard piece) = []
written_in Silence = []
written_in Ended = []
written_in ReadFault = []
written_in (Wrote piece) = piece ∷ []
written_in (WriteFault part) = part ∷ []

-- all lines that were written
abbrev pub written_of : List Act → List (List ℕ)
written_of acts = flat_map written_in (talk_of acts)

-- a line of a stream
pub record IsLine (line : List ℕ) : Type 0 where
  pub flat : IsFlat line
  pub short : length line ≤ LINE_LIMIT

-- the bytes that a session heard are as many lines as it wrote, and a rest of which it answered nothing
pub record HasRead (acts : List Act) : Type 0 where
  pub lines : List (List ℕ)
  pub rest : List ℕ
  pub heard : heard_of acts ≡ stream_of lines rest
  pub each : AllByRecursion IsLine lines
  pub answered : length (written_of acts) ≡ length lines

-- each session heard the lines that it answered, and a rest
abbrev pub SessionsRead : Type 0
SessionsRead = (o : Setup) (acts : List Act) (end : SessionEnd) → Session o acts end → HasRead acts
