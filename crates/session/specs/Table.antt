-- What a line, or a Quiet, is answered with: which entries are made, and which line is written.
use Rattle.std.specs.Prelude.{◌≡◌, ℕ, zero, suc, ◌+◌, ◌%◌, ◌^◌, Bool, true, false, ◌&&◌, ◌||◌, nat_lt, if◌then◌else◌, List, [], ◌∷◌, ◌++◌, length, get_or, Option, Some, None, Result, Ok, Err, ◌⊎◌}
use Rattle.counter.specs.Account.{Asking}
use Rattle.feature_lines.specs.Route.{route}
use Rattle.feature_lines.specs.declared.pool.Pool.{Pool}
use Rattle.feature_lines.specs.declared.route.Found.{Found}
use Rattle.feature_lines.specs.declared.route.Found.TheVariants.{Pool as At, Unknown, Expired}
use Rattle.lic_types.specs.Groups.{same_name}
use Rattle.lic_types.specs.declared.client.Client.{Client}
use Rattle.lic_types.specs.declared.version.Version.{Version}
use Rattle.line_protocol.specs.Replies.{line_of}
use Rattle.line_protocol.specs.Requests.{number_of_fault}
use Rattle.line_protocol.specs.declared.told.Told.{Told}
use Rattle.line_protocol.specs.declared.told.Told.TheVariants as told
use Rattle.line_protocol.specs.declared.wire.Wire.{Wire}
use Rattle.line_protocol.specs.declared.wire.Wire.TheVariants as wire
use Rattle.line_protocol.specs.declared.wire.WireFault.{WireFault}
use Rattle.office_view.specs.View.{first_named}
use Rattle.options_machine.specs.Own.{holds, queues}
use Rattle.options_machine.specs.Step.{set_asked}
use Rattle.options_machine.specs.declared.reply.Kind.{Kind}
use Rattle.options_machine.specs.declared.reply.Kind.TheVariants as kind
use Rattle.session_outside.specs.Talk.{Wrote, WriteFault}
use Rattle.session.specs.Acts.{Act, Tell, Moment, Enter, Look, Ring, Shown, entries}
use Rattle.session.specs.declared.asked.Feature.{Feature}
use Rattle.session.specs.declared.asked.Input.{Input}
use Rattle.session.specs.declared.asked.Input.TheVariants as input
use Rattle.session.specs.declared.asked.Whom.{Whom}
use Rattle.session.specs.declared.asked.Whom.TheVariants.{Holding, Keeping, Everyone}
use Rattle.session.specs.declared.end.SessionEnd.{SessionEnd}
use Rattle.session.specs.declared.end.SessionEnd.TheVariants as ends

-- what a session stands on: the pools, the number of rule sets, and the number of its party at each desk
pub record Setup : Type 0 where
  pub pools : List Pool
  pub sets : ℕ
  pub parties : List ℕ

-- the number of its party at a desk
abbrev pub party_at : Setup → ℕ → ℕ
party_at o j = get_or o.parties j 0

-- whether the session is holding on a desk, by its own entries there
abbrev pub is_holding_at : Setup → List Act → ℕ → Bool
is_holding_at o acts j = holds (entries j acts) (party_at o j)

-- the same of waiting, or of having a seat that it wasn't told of
abbrev pub is_queued_at : Setup → List Act → ℕ → Bool
is_queued_at o acts j = queues (entries j acts) (party_at o j)

-- whether a desk is meant, by whether the session is holding and whether it is queued there
abbrev pub is_meant : Whom → Bool → Bool → Bool
is_meant Holding holds queues = holds
is_meant Keeping holds queues = holds || queues
is_meant Everyone holds queues = true

-- whether a desk is meant after these acts
abbrev pub is_desk_meant : Whom → Setup → List Act → ℕ → Bool
is_desk_meant whom o acts j = is_meant whom (is_holding_at o acts j) (is_queued_at o acts j)

-- the desks below n that are meant, in order
abbrev pub desks : Whom → Setup → List Act → ℕ → List ℕ
desks whom o acts zero = []
desks whom o acts (suc n) = desks whom o acts n ++ (if is_desk_meant whom o acts n then n ∷ [] else [])

-- the first pool that passes a test, counted from j
abbrev pub first_from : (ℕ → Pool → Bool) → ℕ → List Pool → Option ℕ
first_from test j [] = None
first_from test j (p ∷ ps) = if test j p then Some j else first_from test (j + 1) ps

-- the first pool of a name on which the session is holding or queued
abbrev pub kept_pool : Setup → List Act → List ℕ → Option ℕ
kept_pool o acts name = first_from (λ j p. same_name p.name name && is_desk_meant Keeping o acts j) 0 o.pools

-- the first of two places that there is
abbrev pub or_else : Option ℕ → Option ℕ → Option ℕ
or_else (Some j) other = Some j
or_else None other = other

-- a place that was found, or else this
abbrev pub found_or : Option ℕ → Found → Found
found_or (Some j) other = At j
found_or None other = other

-- where a request goes whose session keeps no place at a pool of that name: with a version it is routed, else to the first pool of the name
abbrev pub found_by_route : List Pool → List ℕ → ℕ → Option Version → Found
found_by_route pools name at (Some version) = route pools name version.key at
found_by_route pools name at None = found_or (first_named pools name) Unknown

-- the line is written, with this after it, and the session goes on to `next`; or the write fails after a prefix of the line, and the session is at its end
abbrev pub WritesAnd : Told → List Act → Option SessionEnd → List Act → Option SessionEnd → Type 0
WritesAnd said more next new out =
    ((new ≡ Tell (Wrote (line_of said)) ∷ more) × (out ≡ next))
    ⊎ ((part rest : List ℕ) × (line_of said ≡ part ++ rest) × (new ≡ Tell (WriteFault part) ∷ []) × (out ≡ Some ends.LinkFault))

-- the line is written, and nothing after it
abbrev pub Writes : Told → Option SessionEnd → List Act → Option SessionEnd → Type 0
Writes said next new out = WritesAnd said [] next new out

-- an entry is this client's, of this kind, asked with this moment
pub record IsAsking (client : Client) (what : Kind) (at : ℕ) (a : Asking) : Type 0 where
  pub handed : a.handed ≡ at
  pub who : a.entry.request.client ≡ client
  pub kind : a.entry.request.kind ≡ what

-- one entry on each of these desks, in this order, each asked with the next moment
abbrev pub AsksEach : Client → Kind → List ℕ → List Act → Type 0
AsksEach client what [] new = new ≡ []
AsksEach client what (j ∷ js) new =
    (at : ℕ) × (a : Asking) × (later : List Act) × (new ≡ Moment at ∷ Enter j a ∷ later) × IsAsking client what at a × AsksEach client what js later

-- one entry on each desk that is meant
abbrev pub AsksThose : Whom → Setup → List Act → Client → Kind → List Act → Type 0
AsksThose whom o acts client what new = AsksEach client what (desks whom o acts (length o.pools)) new

-- before HELLO nothing is asked
abbrev pub AsksAny : Whom → Setup → List Act → Option Client → Kind → List Act → Type 0
AsksAny whom o acts None what new = new ≡ []
AsksAny whom o acts (Some client) what new = AsksThose whom o acts client what new

-- the giving back
abbrev pub GivesBack : Setup → List Act → Option Client → List Act → Type 0
GivesBack o acts client new = AsksAny Keeping o acts client kind.Quit new

-- the seat that an entry brought
abbrev pub seat_in : List ℕ → Option ℕ
seat_in [] = None
seat_in (n ∷ ns) = Some n

-- an entry's reply, its seat, and the number of entries before it
abbrev pub reply_to : Asking → Told
reply_to a = told.Desk a.entry.reply (seat_in a.seats) (length a.before % 2 ^ 64)

-- a feature request, where its pool was sought
abbrev pub Served : Client → Kind → ℕ → Found → List Act → Option SessionEnd → Type 0
Served client what at (At j) new out = (a : Asking) × (later : List Act) × (new ≡ Enter j a ∷ later) × IsAsking client what at a × Writes (reply_to a) None later out
Served client what at Unknown new out = Writes told.Unknown None new out
Served client what at (Expired day) new out = Writes (told.Expired day) None new out

-- a feature request: the clock is read once, before its pool is sought
abbrev pub Serves : Setup → List Act → Client → Feature → List Act → Option SessionEnd → Type 0
Serves o acts client f new out =
    (at : ℕ) × (later : List Act) × (new ≡ Moment at ∷ later)
    × Served client f.kind at (found_or (kept_pool o acts f.name) (found_by_route o.pools f.name at f.version)) later out

-- a glance, where its pool was sought
abbrev pub Shows : Option ℕ → List Act → Option SessionEnd → Type 0
Shows (Some j) new out = (s : Shown) × (later : List Act) × (new ≡ Look j s ∷ later) × Writes (told.Glance s.glance) None later out
Shows None new out = Writes told.Unknown None new out

-- a rule set that there is, or isn't
abbrev pub Rereads : Setup → List Act → Client → ℕ → Bool → List Act → Option SessionEnd → Type 0
Rereads o acts client n true new out =
    (asks later : List Act) × (new ≡ asks ++ later) × AsksThose Everyone o acts client (kind.Reread n) asks × Writes (told.Reread n) None later out
Rereads o acts client n false new out = Writes (told.NoRules n) None new out

-- the end that a client asks for: after the giving back a line, and then this
abbrev pub Leaves : Setup → List Act → Option Client → Told → List Act → SessionEnd → List Act → Option SessionEnd → Type 0
Leaves o acts client said more end new out =
    (back later : List Act) × (new ≡ back ++ later) × GivesBack o acts client back × WritesAnd said more (Some end) later out

-- what a request is
abbrev pub input_of : Wire → Input
input_of (wire.Hello client) = input.Hello client
input_of (wire.Checkout name version) = input.Ask (record { kind = kind.Checkout; name = name; version = Some version })
input_of (wire.Queue name version) = input.Ask (record { kind = kind.Queue; name = name; version = Some version })
input_of (wire.Checkin name) = input.Ask (record { kind = kind.Checkin; name = name; version = None })
input_of (wire.Beat name) = input.Ask (record { kind = kind.Beat; name = name; version = None })
input_of (wire.Look name) = input.Ask (record { kind = kind.Look; name = name; version = None })
input_of (wire.Status name) = input.Ask (record { kind = kind.Count; name = name; version = None })
input_of (wire.Glance name) = input.Glance name
input_of (wire.Reread n) = input.Reread n
input_of wire.Quit = input.Quit
input_of wire.Shutdown = input.Shutdown

-- what is asked of a feature is never a rule set
abbrev pub AsksNoSet : Input → Type 0
AsksNoSet (input.Ask f) = set_asked f.kind ≡ None
AsksNoSet (input.Hello client) = Unit {0}
AsksNoSet (input.Glance name) = Unit {0}
AsksNoSet (input.Reread n) = Unit {0}
AsksNoSet input.Quit = Unit {0}
AsksNoSet input.Shutdown = Unit {0}

-- a request before HELLO: what it is answered with, who the client is then, and whether the session ends
abbrev pub Meets : Setup → List Act → Input → List Act → Option Client → Option SessionEnd → Type 0
Meets o acts (input.Hello client) new after out = (after ≡ Some client) × Writes (told.Welcome (party_at o 0)) None new out
Meets o acts input.Quit new after out = (after ≡ None) × Leaves o acts None told.Bye [] ends.Quit new out
Meets o acts input.Shutdown new after out = (after ≡ None) × Leaves o acts None told.Stopping (Ring ∷ []) ends.Down new out
Meets o acts (input.Ask f) new after out = (after ≡ None) × Writes told.NoHello None new out
Meets o acts (input.Glance name) new after out = (after ≡ None) × Writes told.NoHello None new out
Meets o acts (input.Reread n) new after out = (after ≡ None) × Writes told.NoHello None new out

-- a request of a client
abbrev pub Does : Setup → List Act → Client → Input → List Act → Option SessionEnd → Type 0
Does o acts client (input.Hello other) new out = Writes told.Greeted None new out
Does o acts client (input.Ask f) new out = Serves o acts client f new out
Does o acts client (input.Glance name) new out = Shows (or_else (kept_pool o acts name) (first_named o.pools name)) new out
Does o acts client (input.Reread n) new out = Rereads o acts client n (nat_lt n o.sets) new out
Does o acts client input.Quit new out = Leaves o acts (Some client) told.Bye [] ends.Quit new out
Does o acts client input.Shutdown new out = Leaves o acts (Some client) told.Stopping (Ring ∷ []) ends.Down new out

-- a request of a client, or of one who isn't known yet
abbrev pub Obeys : Setup → List Act → Option Client → Input → List Act → Option Client → Option SessionEnd → Type 0
Obeys o acts None i new after out = Meets o acts i new after out
Obeys o acts (Some client) i new after out = (after ≡ Some client) × Does o acts client i new out

-- what a line is answered with, who the client is then, and whether the session ends
abbrev pub Answers : Setup → List Act → Option Client → Result Wire WireFault → List Act → Option Client → Option SessionEnd → Type 0
Answers o acts client (Err fault) new after out = (after ≡ client) × Writes (told.Bad (number_of_fault fault)) None new out
Answers o acts client (Ok request) new after out = Obeys o acts client (input_of request) new after out
