-- A session: a list of acts, from its opening to its end.
use Rattle.std.specs.Prelude.{◌≡◌, ℕ, ◌<◌, true, false, nat_eq, if◌then◌else◌, List, [], ◌∷◌, ◌++◌, length, map, Option, Some, None}
use Rattle.counter.specs.Account.{Account}
use Rattle.lic_types.specs.declared.client.Client.{Client}
use Rattle.line_protocol.specs.Requests.{request_of}
use Rattle.line_protocol.specs.Streams.{Begins, IsOpen, IsOverlong}
use Rattle.office_view.specs.View.{View}
use Rattle.options_machine.specs.declared.reply.Kind.TheVariants as kind
use Rattle.session_outside.specs.Talk.{Heard, Silence, Ended, ReadFault}
use Rattle.session.specs.Acts.{Act, Tell, Hear}
use Rattle.session.specs.Table.{Answers, AsksAny, GivesBack, Setup, is_desk_meant}
use Rattle.session.specs.declared.asked.Whom.TheVariants.{Holding, Keeping}
use Rattle.session.specs.declared.end.SessionEnd.{SessionEnd}
use Rattle.session.specs.declared.end.SessionEnd.TheVariants as ends

-- a session that goes on: what it did, who its client is, and the bytes heard of which no line is answered yet
pub data Goes (o : Setup) : List Act → Option Client → List ℕ → Type 0 where
  opens : Goes o [] None []
  -- it reads only where no whole line waits
  hears : {acts : List Act} {client : Option Client} {pending : List ℕ} (piece : List ℕ) → Goes o acts client pending → IsOpen pending → Goes o (acts ++ Tell (Heard piece) ∷ []) client (pending ++ piece)
  -- the first line that waits is answered
  answers : {acts : List Act} {client : Option Client} {pending : List ℕ} (line rest : List ℕ) (new : List Act) (after : Option Client) → Goes o acts client pending → Begins pending line rest → Answers o acts client (request_of line) new after None → Goes o (acts ++ new) after rest
  -- at a Quiet the bell is asked first, and then the desks that are holding
  looks : {acts : List Act} {client : Option Client} {pending : List ℕ} (new : List Act) → Goes o acts client pending → IsOpen pending → AsksAny Holding o (acts ++ Tell Silence ∷ Hear false ∷ []) client kind.Look new → Goes o ((acts ++ Tell Silence ∷ Hear false ∷ []) ++ new) client pending

-- the end at the end of the stream, with these bytes since the last LF
abbrev pub end_with : List ℕ → SessionEnd
end_with rest = if nat_eq (length rest) 0 then ends.End else ends.Torn (length rest)

-- how a session ends, before the giving back of every end
pub data Ends (o : Setup) : List Act → Option Client → SessionEnd → Type 0 where
  finishes : {acts : List Act} {client : Option Client} {pending : List ℕ} (line rest : List ℕ) (new : List Act) (after : Option Client) (end : SessionEnd) → Goes o acts client pending → Begins pending line rest → Answers o acts client (request_of line) new after (Some end) → Ends o (acts ++ new) after end
  closes : {acts : List Act} {client : Option Client} {pending : List ℕ} → Goes o acts client pending → IsOpen pending → Ends o (acts ++ Tell Ended ∷ []) client (end_with pending)
  breaks : {acts : List Act} {client : Option Client} {pending : List ℕ} → Goes o acts client pending → IsOpen pending → Ends o (acts ++ Tell ReadFault ∷ []) client ends.LinkFault
  overflows : {acts : List Act} {client : Option Client} {pending : List ℕ} → Goes o acts client pending → IsOverlong pending → Ends o acts client ends.LineTooLong
  stops : {acts : List Act} {client : Option Client} {pending : List ℕ} → Goes o acts client pending → IsOpen pending → Ends o (acts ++ Tell Silence ∷ Hear true ∷ []) client ends.Stopped

-- a whole session: every end gives back, once, what is kept then
pub record Session (o : Setup) (acts : List Act) (end : SessionEnd) : Type 0 where
  pub talk : List Act
  pub back : List Act
  pub client : Option Client
  pub whole : acts ≡ talk ++ back
  pub ended : Ends o talk client end
  pub gives_back : GivesBack o talk client back

-- after these acts no desk's standing entry is of holding or of queueing
pub record KeepsNothing (o : Setup) (acts : List Act) : Type 0 where
  pub idle : (j : ℕ) → j < length o.pools → is_desk_meant Keeping o acts j ≡ false

-- where a step leaves a session: it goes on and no whole line waits, or it is at its end
abbrev pub Leads : Setup → List Act → Option Client → List ℕ → Option SessionEnd → Type 0
Leads o acts client pending None = Goes o acts client pending × IsOpen pending
Leads o acts client pending (Some end) = Ends o acts client end

-- the setup of a session with these counters
abbrev pub setup_of : {C D : Type 0} → (C → Account) → View D → List C → Setup
setup_of account v cs = record { pools = v.pools; sets = v.sets; parties = map (λ c. (account c).party) cs }
