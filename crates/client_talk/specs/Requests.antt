-- What comes of the making of a request.
use Rattle.std.specs.Prelude.{◌≡◌, ℕ, nat_lt, if◌then◌else◌, List, [], ◌∷◌, ◌++◌, length, Result, Ok, Err, string_bytes}
use Rattle.line_protocol.specs.Requests.{request_of}
use Rattle.line_protocol.specs.declared.feeder.TheConstants.{LINE_LIMIT}
use Rattle.line_protocol.specs.declared.wire.Wire.{Wire}
use Rattle.line_protocol.specs.declared.wire.WireFault.{WireFault}
use Rattle.client_talk.specs.declared.cause.Cause.{Cause}
use Rattle.client_talk.specs.declared.cause.Cause.TheVariants.{Lost, Refused, NoNumbers, NoRequest, TooLong, BadWord, NoMemory, WriteFault}
use Rattle.client_talk.specs.declared.request.Request.{Request}
use Rattle.client_talk.specs.declared.want.Want.{Want}

abbrev pub read_judged : Result Wire WireFault → Result (Unit {0}) Cause
read_judged (Ok wire) = Ok tt
read_judged (Err fault) = Err (NoRequest fault)

-- whether words make a line that may be sent: it has at most 1,024 bytes, and is a request of the protocol
abbrev pub line_judged : List ℕ → Result (Unit {0}) Cause
line_judged words = if nat_lt LINE_LIMIT (length words) then Err TooLong else read_judged (request_of words)

-- the words make a request, and this is its line; or they make none, and the fault is told; or memory ran out
abbrev pub Makes : List ℕ → Want → Result Request Cause → Type 0
Makes words want (Ok request) = (string_bytes request.line ≡ words ++ 10 ∷ []) × (request.want ≡ want) × (line_judged words ≡ Ok tt)
Makes words want (Err (NoRequest fault)) = line_judged words ≡ Err (NoRequest fault)
Makes words want (Err TooLong) = line_judged words ≡ Err TooLong
Makes words want (Err NoMemory) = Unit {0}
Makes words want (Err (BadWord bad)) = ⊥
Makes words want (Err (Lost lost)) = ⊥
Makes words want (Err (Refused refusal)) = ⊥
Makes words want (Err (NoNumbers reply)) = ⊥
Makes words want (Err WriteFault) = ⊥
