use Rattle.std.specs.Prelude.{◌≡◌, ℕ, ◌+◌, ◌≤◌, Bool, true, false, not, ◌↔◌, ◌⊎◌, List, Option, None, Some}
use Rattle.std.specs.List.{list_any, position}
use Rattle.std.specs.Option.{option_map}
use Rattle.options_machine.specs.declared.decision.Decision.{Decision}
use Rattle.options_machine.specs.declared.decision.Decision.TheVariants.{Barred, Retake, Capped, Grant, Full}
use Rattle.options_machine.specs.declared.decision.Place.{Place}
use Rattle.options_machine.specs.declared.decision.Place.TheVariants.{Told, Untold, Waiting, Away}
use Rattle.options_machine.specs.declared.reply.Ask.{Ask}
use Rattle.options_machine.specs.declared.reply.Ask.TheVariants as ask
use Rattle.options_machine.specs.declared.reply.Charge.{Charge}
use Rattle.options_machine.specs.declared.reply.Charge.TheVariants.{Open}
use Rattle.options_machine.specs.declared.reply.Entry.{Entry}
use Rattle.options_machine.specs.declared.reply.Kind.{Kind}
use Rattle.options_machine.specs.declared.reply.Kind.TheVariants as kind
use Rattle.options_machine.specs.declared.reply.Reply.{Reply}
use Rattle.options_machine.specs.declared.reply.Reply.TheVariants as reply
use Rattle.options_machine.specs.declared.reply.Request.{Request}
use Rattle.options_machine.specs.declared.reply.Task.{Task}
use Rattle.options_machine.specs.declared.reply.Task.TheVariants.{Answer, Reread}
use Rattle.options_machine.specs.declared.rows.Holder.{Holder}
use Rattle.options_machine.specs.declared.rows.Queuer.{Queuer}
use Rattle.options_machine.specs.Rules.{Rules}
use Rattle.options_machine.specs.State.{State, charges, in_force, in_use, is_queuer, place}
use Rattle.options_machine.specs.Decide.{decide, has_room}
use Rattle.options_machine.specs.Settle.{settle}
use Rattle.options_machine.specs.Step.{lingers, set_asked, step, task}
use Rattle.options_machine.specs.Run.{IsRun, after}
use Rattle.options_machine.specs.Law.{AreSets}
use Rattle.options_machine.specs.Own.{is_of_holding, is_of_queueing}

-- the state that a request finds: the moment has come, and the queue was served
abbrev pub state_found : List Rules → State → ℕ → State
state_found sets s moment = settle (in_force sets s) s moment

-- the rules by which it is answered
abbrev pub rules_found : List Rules → State → ℕ → Rules
rules_found sets s moment = in_force sets (state_found sets s moment)

-- what is answered
abbrev pub reply_to : List Rules → State → Request → ℕ → Reply
reply_to sets s request moment = (step sets s request moment).0

-- whether a request asks a party's answer, of which this holds
abbrev pub asks_such : (Ask → Bool) → Task → Bool
asks_such p (Answer asked) = p asked
asks_such p (Reread n) = false

abbrev pub is_for_seat : Ask → Bool
is_for_seat (ask.Seat may_wait) = true
is_for_seat other = false

abbrev pub is_giving_back : Ask → Bool
is_giving_back ask.GiveBack = true
is_giving_back other = false

-- whether a party that waits, or wasn't told, is told by it how it stands
abbrev pub is_for_standing : Ask → Bool
is_for_standing (ask.Seat may_wait) = true
is_for_standing ask.Beat = true
is_for_standing ask.Look = true
is_for_standing other = false

abbrev pub is_of_own_seat : Ask → Bool
is_of_own_seat ask.GiveBack = true
is_of_own_seat ask.Beat = true
is_of_own_seat ask.Look = true
is_of_own_seat other = false

abbrev pub is_of_itself : Ask → Bool
is_of_itself ask.Count = false
is_of_itself other = true

-- whether a request is for a seat: Checkout and Queue
abbrev pub asks_for_seat : Kind → Bool
asks_for_seat k = asks_such is_for_seat (task k)

-- whether it gives back what the party has: Checkin and Quit
abbrev pub gives_back : Kind → Bool
gives_back k = asks_such is_giving_back (task k)

-- whether a party that waits, or wasn't told, is told by it how it stands: Checkout, Queue, Beat and Look
abbrev pub asks_how_it_stands : Kind → Bool
asks_how_it_stands k = asks_such is_for_standing (task k)

-- whether it is about a seat that the party has: Checkin, Quit, Beat and Look
abbrev pub is_about_own_seat : Kind → Bool
is_about_own_seat k = asks_such is_of_own_seat (task k)

-- whether it is about the party itself: all but Count and Reread
abbrev pub is_about_itself : Kind → Bool
is_about_itself k = asks_such is_of_itself (task k)

abbrev pub is_told : Place → Bool
is_told (Told h) = true
is_told (Untold h) = false
is_told (Waiting q) = false
is_told Away = false

abbrev pub is_waiting : Place → Bool
is_waiting (Told h) = false
is_waiting (Untold h) = false
is_waiting (Waiting q) = true
is_waiting Away = false

-- the line by which a seat is denied: cases 1, 2 and 4 of a decision
abbrev pub line_of_denial : Decision → Option ℕ
line_of_denial (Barred line) = Some line
line_of_denial (Capped line) = Some line
line_of_denial (Retake charge) = None
line_of_denial (Grant charge) = None
line_of_denial Full = None

-- a party that has nothing asks for a seat, and this line denies it
pub record IsDenied (r : Rules) (s : State) (request : Request) (line : ℕ) : Type 0 where
  pub asks : asks_for_seat request.kind ≡ true
  pub away : place s request.party ≡ Away
  pub denied : line_of_denial (decide r s request.client) ≡ Some line

-- a party that waits asks how it stands, and this line bars the client for whom it waits: cases 1 and 2
pub record IsBarredInQueue (r : Rules) (s : State) (request : Request) (line : ℕ) (q : Queuer) : Type 0 where
  pub asks : asks_how_it_stands request.kind ≡ true
  pub waits : place s request.party ≡ Waiting q
  pub barred : decide r s q.client ≡ Barred line

-- a denial names the line that denied, and comes nowhere else
abbrev pub DenialsNameTheirLine : Type 0
DenialsNameTheirLine = (sets : List Rules) (s : State) (request : Request) (moment line : ℕ)
    → (reply_to sets s request moment ≡ reply.Denied line)
    ↔ (IsDenied (rules_found sets s moment) (state_found sets s moment) request line
    ⊎ ((q : Queuer) × IsBarredInQueue (rules_found sets s moment) (state_found sets s moment) request line q))

-- a party that has nothing asks for a seat now, and there is none: so many are charged to Open, and so many does no RESERVE line keep
pub record IsFull (r : Rules) (s : State) (request : Request) (taken free : ℕ) : Type 0 where
  pub asks : request.kind ≡ kind.Checkout
  pub away : place s request.party ≡ Away
  pub none : decide r s request.client ≡ Full
  pub charged : taken ≡ charges s Open
  pub unreserved : free ≡ r.free

-- that there is no seat is said exactly where there is none, with these numbers, and then none is left that no RESERVE line keeps
abbrev pub NoSeatIsLeft : Type 0
NoSeatIsLeft = (sets : List Rules) (s : State) (request : Request) (moment taken free : ℕ)
    → ((reply_to sets s request moment ≡ reply.NoSeat taken free) ↔ IsFull (rules_found sets s moment) (state_found sets s moment) request taken free)
    × (reply_to sets s request moment ≡ reply.NoSeat taken free → free ≤ taken)

-- where that is said, each RESERVE line that speaks of the client is used up, or all licences are in use
abbrev pub ReservesAreUsedUp : Type 0
ReservesAreUsedUp = (sets : List Rules) (s : State) (request : Request) (moment taken free : ℕ) → reply_to sets s request moment ≡ reply.NoSeat taken free
    → (list_any (has_room (rules_found sets s moment) (state_found sets s moment) request.client) (rules_found sets s moment).reserves ≡ false)
    ⊎ ((rules_found sets s moment).count ≤ in_use (state_found sets s moment))

-- a party that has nothing asks for a seat, and the rules grant one with this charge: cases 5 and 6
pub record IsGranted (r : Rules) (s : State) (request : Request) (charge : Charge) : Type 0 where
  pub asks : asks_for_seat request.kind ≡ true
  pub away : place s request.party ≡ Away
  pub granted : decide r s request.client ≡ Grant charge

-- a party that the queue served asks how it stands, and is told of its seat, which has this charge
pub record IsToldLate (s : State) (request : Request) (charge : Charge) (h : Holder) : Type 0 where
  pub asks : asks_how_it_stands request.kind ≡ true
  pub untold : place s request.party ≡ Untold h
  pub charged : h.charge ≡ charge

-- a seat is granted exactly where a party that has nothing asks for one and the rules grant it, and where a party that the queue served is told
abbrev pub SeatsAreGranted : Type 0
SeatsAreGranted = (sets : List Rules) (s : State) (request : Request) (moment : ℕ) (charge : Charge)
    → (reply_to sets s request moment ≡ reply.Granted charge)
    ↔ (IsGranted (rules_found sets s moment) (state_found sets s moment) request charge ⊎ ((h : Holder) × IsToldLate (state_found sets s moment) request charge h))

-- a party that has nothing asks for a seat, and one with this charge lingers for its client: case 3
pub record IsRetaken (r : Rules) (s : State) (request : Request) (charge : Charge) : Type 0 where
  pub asks : asks_for_seat request.kind ≡ true
  pub away : place s request.party ≡ Away
  pub retaken : decide r s request.client ≡ Retake charge

-- a seat is taken again exactly where a party that has nothing asks for one, and one lingers for its client
abbrev pub SeatsAreRetaken : Type 0
SeatsAreRetaken = (sets : List Rules) (s : State) (request : Request) (moment : ℕ) (charge : Charge)
    → (reply_to sets s request moment ≡ reply.Retaken charge) ↔ IsRetaken (rules_found sets s moment) (state_found sets s moment) request charge

abbrev pub one_more : ℕ → ℕ
one_more n = n + 1

-- the position at which the party waits, from 1, if it waits
abbrev pub position_in_queue : State → ℕ → Option ℕ
position_in_queue s party = option_map one_more (position (is_queuer party) s.queue)

-- at each state of a run a party is told a position exactly where it waits at it after the step, whatever it asked about itself
abbrev pub PositionsAreTold : Type 0
PositionsAreTold = (sets : List Rules) (count : ℕ) (h : List Entry) (request : Request) (moment n : ℕ) → AreSets sets count → IsRun sets h
    → (reply_to sets (after sets h) request moment ≡ reply.Queued n)
    ↔ ((is_about_itself request.kind ≡ true) × (position_in_queue (step sets (after sets h) request moment).1 request.party ≡ Some n))

-- a place in the queue is given back exactly by a Checkin or Quit of a party that waits
abbrev pub PlacesAreGivenBack : Type 0
PlacesAreGivenBack = (sets : List Rules) (s : State) (request : Request) (moment : ℕ)
    → (reply_to sets s request moment ≡ reply.Unqueued)
    ↔ ((gives_back request.kind ≡ true) × (is_waiting (place (state_found sets s moment) request.party) ≡ true))

-- a party is told that it has a seat already exactly where it asks for one, and has one of which it was told
abbrev pub SeatsAreHeldOnce : Type 0
SeatsAreHeldOnce = (sets : List Rules) (s : State) (request : Request) (moment : ℕ)
    → (reply_to sets s request moment ≡ reply.AlreadyHeld)
    ↔ ((asks_for_seat request.kind ≡ true) × (is_told (place (state_found sets s moment) request.party) ≡ true))

-- a party is told that it has no seat exactly where it asks about one, and has neither a seat nor a place in the queue
abbrev pub NothingIsHeld : Type 0
NothingIsHeld = (sets : List Rules) (s : State) (request : Request) (moment : ℕ)
    → (reply_to sets s request moment ≡ reply.NotHeld)
    ↔ ((is_about_own_seat request.kind ≡ true) × (place (state_found sets s moment) request.party ≡ Away))

-- a told holder gives its seat back, which lingers until this moment
pub record IsLeft (r : Rules) (s : State) (request : Request) (until : ℕ) : Type 0 where
  pub leaves : gives_back request.kind ≡ true
  pub told : is_told (place s request.party) ≡ true
  pub stays : lingers r s ≡ true
  pub end : until ≡ s.now + r.linger

-- a seat lingers exactly where a told holder gives it back, and there is a linger time, and room
abbrev pub SeatsLinger : Type 0
SeatsLinger = (sets : List Rules) (s : State) (request : Request) (moment until : ℕ)
    → (reply_to sets s request moment ≡ reply.Lingering until) ↔ IsLeft (rules_found sets s moment) (state_found sets s moment) request until

-- a told holder whose seat doesn't linger, or a holder that wasn't told
abbrev pub goes_at_once : Rules → State → Place → Bool
goes_at_once r s (Told h) = not (lingers r s)
goes_at_once r s (Untold h) = true
goes_at_once r s (Waiting q) = false
goes_at_once r s Away = false

-- a seat is returned exactly where a told holder gives it back and it doesn't linger, or a holder that wasn't told gives it back
abbrev pub SeatsAreReturned : Type 0
SeatsAreReturned = (sets : List Rules) (s : State) (request : Request) (moment : ℕ)
    → (reply_to sets s request moment ≡ reply.Returned)
    ↔ ((gives_back request.kind ≡ true) × (goes_at_once (rules_found sets s moment) (state_found sets s moment) (place (state_found sets s moment) request.party) ≡ true))

-- a party that waits, or has a seat that it wasn't told of
abbrev pub is_pending : Place → Bool
is_pending (Told h) = false
is_pending (Untold h) = true
is_pending (Waiting q) = true
is_pending Away = false

-- at each state of a run a reply says what its party has after the step, unless it asked for a rule set: it is of holding exactly where the party is a told holder, and of queueing exactly where it waits or wasn't told
abbrev pub RepliesTell : Type 0
RepliesTell = (sets : List Rules) (count : ℕ) (h : List Entry) (request : Request) (moment : ℕ) → AreSets sets count → IsRun sets h → set_asked request.kind ≡ None
    → (is_of_holding (reply_to sets (after sets h) request moment) ≡ is_told (place (step sets (after sets h) request moment).1 request.party))
    × (is_of_queueing (reply_to sets (after sets h) request moment) ≡ is_pending (place (step sets (after sets h) request moment).1 request.party))

-- it is said that a rule set holds exactly where that set was asked for
abbrev pub SetsAreReread : Type 0
SetsAreReread = (sets : List Rules) (s : State) (request : Request) (moment set : ℕ)
    → (reply_to sets s request moment ≡ reply.Reread set) ↔ (set_asked request.kind ≡ Some set)

-- no reply says of its party both that it has a seat of which it was told, and that it waits or wasn't told
abbrev pub OwnIsNotQueued : Type 0
OwnIsNotQueued = (sets : List Rules) (s : State) (request : Request) (moment : ℕ)
    → is_of_holding (reply_to sets s request moment) ≡ true → is_of_queueing (reply_to sets s request moment) ≡ false
