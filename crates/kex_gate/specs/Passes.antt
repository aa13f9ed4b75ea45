-- What a gate and its passes are to whoever has them.
use Rattle.std.specs.Prelude.{◌≡◌, ℕ, ◌+◌, ◌-◌, ◌*◌, ◌%◌, ◌^◌, ◌<◌, ◌≤◌, if◌then◌else◌, Bool, true, false, List, [], ◌∷◌, ◌++◌}
use Rattle.atomic_table.specs.Seated.{TableId}
use Rattle.kex_core.specs.declared.place.Place.TheVariants.{Out}
use Rattle.kex_core.specs.Shapes.{Sheet}
use Rattle.kex_core.specs.declared.limits.TheConstants.{PARTY_LIMIT}
use Rattle.kex_net.specs.Gates.{IsGated}
use Rattle.kex_words.specs.declared.card.Card.{Card}
use Rattle.kex_words.specs.Passes.{TableNet, Pass, Held, times}
use Rattle.pass_roles.specs.Roles.{total}
use Rattle.seat_names.specs.declared.turns.Through.{Through}
use Rattle.kex_gate.specs.declared.view.Visit.{Visit}

-- a gate: `id` tells it from others, and `seats` are the seats behind it
pub record Gate : Type 0 where
  pub id : TableId
  pub seats : TableNet

-- a session: of which gate, which one, and the seats that it had, in order
pub record Guest : Type 0 where
  pub gate : Gate
  pub number : ℕ
  pub visits : List Visit

-- a session that enters: by which way, how many others were not Free when it took its place, and with which pass of the seats
pub record Way : Type 0 where
  pub guest : Guest
  pub fast : Bool
  pub met : ℕ
  pub pass : Pass

-- a session that is through the stages
pub record WayThrough : Type 0 where
  pub guest : Guest
  pub fast : Bool
  pub met : ℕ
  pub through : Through

-- a session that holds a seat, with the hold of the seats that it owns
pub record GateHeld : Type 0 where
  pub guest : Guest
  pub fast : Bool
  pub met : ℕ
  pub held : Held

-- how many sessions the net of a gate is for
abbrev pub sessions : Sheet → ℕ
sessions net = net.parties - net.width

-- the pass p of the seats is that of a session which came by this way: by the fast way one of the gate's, whose numbers come behind those of the sessions, and by the slow way its own
pub record IsPassFor (g : Guest) (fast : Bool) (p : Pass) : Type 0 where
  pub table : p.table ≡ g.gate.seats
  pub of_gate : fast ≡ true → (sessions g.gate.seats.net ≤ p.number) × (p.number < sessions g.gate.seats.net + g.gate.seats.net.width)
  pub own : fast ≡ false → p.number ≡ g.number

-- a pass that is Out
abbrev pub resting : TableNet → ℕ → List ℕ → Pass
resting t p l = record { table = t; number = p; place = Out; firsts = 0; spins = 0; got = l }

-- the seats of these visits
abbrev pub seats_of : List Visit → List ℕ
seats_of [] = []
seats_of (v ∷ vs) = v.seat ∷ seats_of vs

-- those of the visits by the slow way
abbrev pub slow_seats : List Visit → List ℕ
slow_seats [] = []
slow_seats (v ∷ vs) = if v.fast then slow_seats vs else (v.seat ∷ slow_seats vs)

-- the numbers that a session took, in order
abbrev pub got : Guest → List ℕ
got g = seats_of g.visits

abbrev pub got_held : GateHeld → List ℕ
got_held h = seats_of h.guest.visits ++ h.held.card.number ∷ []

-- the pass of its own that a session has while it is outside
abbrev pub own_pass : Guest → Pass
own_pass g = resting g.gate.seats g.number (slow_seats g.visits)

-- the session, once it had one more seat
abbrev pub guest_with_visit : Guest → ℕ → Bool → Guest
guest_with_visit g s f = record g { visits = g.visits ++ (record { seat = s; fast = f }) ∷ [] }

-- a session that never had a seat
abbrev pub fresh : Gate → ℕ → Guest
fresh g p = record { gate = g; number = p; visits = [] }

-- the numbers of sessions
abbrev pub session_numbers : List Guest → List ℕ
session_numbers [] = []
session_numbers (g ∷ gs) = g.number ∷ session_numbers gs

-- how often these sessions had the seat s
abbrev pub taken_by : List Guest → ℕ → ℕ
taken_by guests s = total (λ (g : Guest). times s (got g)) guests

-- how often a session had the seat s by the slow way
abbrev pub slow_of : ℕ → Guest → ℕ
slow_of s g = times s (slow_seats g.visits)

-- card s of a gate that these sessions have used
abbrev pub used_by : List Guest → ℕ → Card
used_by guests s = record { number = s; uses = taken_by guests s % 2 ^ 64 }

-- the word of the count of room
abbrev pub room_word : ℕ
room_word = 1

-- the word of bit i
abbrev pub bit_word : ℕ → ℕ
bit_word i = i + 2

-- the gate of n sessions and m seats: a word for split and join, the count of room, and a word for each bit; and a slot for each pass that moves
pub record IsSetUp (id : TableId) (told seats : TableNet) (n m : ℕ) : Type 0 where
  pub words : id.words ≡ m + 1
  pub slots : id.slots ≡ m
  pub told_is : told ≡ seats
  pub parties : seats.net.parties ≡ n + m
  pub width : seats.net.width ≡ m
  pub two : 2 ≤ n
  pub one : 1 ≤ m
  pub thin : 2 * m < n
  pub small : n + m ≤ PARTY_LIMIT
  pub gated : IsGated n m seats.net
