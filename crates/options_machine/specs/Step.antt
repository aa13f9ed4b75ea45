use Rattle.std.specs.Prelude.{ℕ, ◌+◌, Bool, true, false, ◌&&◌, nat_lt, if◌then◌else◌, List, [], ◌∷◌, ◌++◌, Option, None, Some, length, find, map, count_by}
use Rattle.std.specs.List.{position_or_len}
use Rattle.std.specs.Option.{option_map}
use Rattle.lic_types.specs.declared.client.Client.{Client}
use Rattle.lic_types.specs.declared.limits.TheConstants.{LINGER_LIMIT}
use Rattle.options_machine.specs.declared.decision.Decision.{Decision}
use Rattle.options_machine.specs.declared.decision.Decision.TheVariants.{Barred, Retake, Capped, Grant, Full}
use Rattle.options_machine.specs.declared.decision.Place.{Place}
use Rattle.options_machine.specs.declared.decision.Place.TheVariants.{Told, Untold, Waiting, Away}
use Rattle.options_machine.specs.declared.effect.Effect.{Effect}
use Rattle.options_machine.specs.declared.effect.Effect.TheVariants as effect
use Rattle.options_machine.specs.declared.limits.Limit.{Limit}
use Rattle.options_machine.specs.declared.reply.Ask.{Ask}
use Rattle.options_machine.specs.declared.reply.Ask.TheVariants as ask
use Rattle.options_machine.specs.declared.reply.Charge.{Charge}
use Rattle.options_machine.specs.declared.reply.Charge.TheVariants.{Reserve, Open}
use Rattle.options_machine.specs.declared.reply.Kind.{Kind}
use Rattle.options_machine.specs.declared.reply.Kind.TheVariants as kind
use Rattle.options_machine.specs.declared.reply.Reply.{Reply}
use Rattle.options_machine.specs.declared.reply.Reply.TheVariants as reply
use Rattle.options_machine.specs.declared.reply.Request.{Request}
use Rattle.options_machine.specs.declared.reply.Task.{Task}
use Rattle.options_machine.specs.declared.reply.Task.TheVariants.{Answer, Reread}
use Rattle.options_machine.specs.declared.rows.Holder.{Holder}
use Rattle.options_machine.specs.declared.rows.Lingerer.{Lingerer}
use Rattle.options_machine.specs.Rules.{Rules, applies}
use Rattle.options_machine.specs.State.{State, charges, in_force, is_queuer, place, same_charge, set_at}
use Rattle.options_machine.specs.Decide.{decide, number_of_limit}
use Rattle.options_machine.specs.Settle.{settle}
use Rattle.options_machine.specs.Apply.{apply}

-- what a kind of request makes a desk do: Checkin and Quit give back, Queue asks for a seat as Checkout does and may wait
abbrev pub task : Kind → Task
task kind.Checkout = Answer (ask.Seat false)
task kind.Queue = Answer (ask.Seat true)
task kind.Checkin = Answer ask.GiveBack
task kind.Quit = Answer ask.GiveBack
task kind.Beat = Answer ask.Beat
task kind.Look = Answer ask.Look
task kind.Count = Answer ask.Count
task (kind.Reread n) = Reread n

abbrev pub set_of : Task → Option ℕ
set_of (Answer asked) = None
set_of (Reread n) = Some n

-- the number of the rule set that a request asks for
abbrev pub set_asked : Kind → Option ℕ
set_asked k = set_of (task k)

-- whether a seat that is given back lingers: there is a linger time, and room
abbrev pub lingers : Rules → State → Bool
lingers r s = nat_lt 0 r.linger && nat_lt (length s.lingering) LINGER_LIMIT

-- the party's position in the queue, from 1
abbrev pub position_of : State → ℕ → ℕ
position_of s party = position_or_len (is_queuer party) s.queue + 1

-- the numbers of a state, with whether the party is a told holder, and whether it waits or wasn't told
abbrev pub counts : Rules → State → Bool → Bool → Reply
counts r s own queued = reply.Counts (length s.holders) (length s.lingering) (charges s Open) r.free own queued

-- the entry as which a holder's seat lingers, where it does
abbrev pub entry_left : Rules → State → Holder → Option Lingerer
entry_left r s h = if lingers r s then Some (record { client = h.client; charge = h.charge; until = s.now + r.linger }) else None

-- a told holder gives its seat back
abbrev pub answer_of_return : Option Lingerer → Reply × Effect
answer_of_return (Some l) = (reply.Lingering l.until, effect.Linger l)
answer_of_return None = (reply.Returned, effect.Release)

-- to a told holder
abbrev pub to_told : Rules → State → Holder → Ask → Reply × Effect
to_told r s h (ask.Seat may_wait) = (reply.AlreadyHeld, effect.Nothing)
to_told r s h ask.GiveBack = answer_of_return (entry_left r s h)
to_told r s h ask.Beat = (reply.Beaten, effect.Tell)
to_told r s h ask.Look = (reply.Held, effect.Nothing)
to_told r s h ask.Count = (counts r s true false, effect.Nothing)

-- to a holder that isn't told
abbrev pub to_untold : Rules → State → Holder → Ask → Reply × Effect
to_untold r s h (ask.Seat may_wait) = (reply.Granted h.charge, effect.Tell)
to_untold r s h ask.GiveBack = (reply.Returned, effect.Release)
to_untold r s h ask.Beat = (reply.Granted h.charge, effect.Tell)
to_untold r s h ask.Look = (reply.Granted h.charge, effect.Tell)
to_untold r s h ask.Count = (counts r s false true, effect.Nothing)

-- how a party that waits stands: the rules bar the client for whom it waits, or it is told its position
abbrev pub standing_of : State → ℕ → Decision → Reply × Effect
standing_of s party (Barred line) = (reply.Denied line, effect.Unqueue)
standing_of s party other = (reply.Queued (position_of s party), effect.Nothing)

-- to a party that waits for this client
abbrev pub to_waiting : Rules → State → ℕ → Client → Ask → Reply × Effect
to_waiting r s party client (ask.Seat may_wait) = standing_of s party (decide r s client)
to_waiting r s party client ask.GiveBack = (reply.Unqueued, effect.Unqueue)
to_waiting r s party client ask.Beat = standing_of s party (decide r s client)
to_waiting r s party client ask.Look = standing_of s party (decide r s client)
to_waiting r s party client ask.Count = (counts r s false true, effect.Nothing)

-- where there is no seat: a place at the end of the queue, or that there is none
abbrev pub answer_without_seat : Rules → State → Bool → Reply × Effect
answer_without_seat r s true = (reply.Queued (length s.queue + 1), effect.Join)
answer_without_seat r s false = (reply.NoSeat (charges s Open) r.free, effect.Nothing)

-- to a party that has nothing and asks for a seat, by what the rules say
abbrev pub answer_by_decision : Rules → State → Bool → Decision → Reply × Effect
answer_by_decision r s may_wait (Barred line) = (reply.Denied line, effect.Nothing)
answer_by_decision r s may_wait (Retake charge) = (reply.Retaken charge, effect.Reseat charge)
answer_by_decision r s may_wait (Capped line) = (reply.Denied line, effect.Nothing)
answer_by_decision r s may_wait (Grant charge) = (reply.Granted charge, effect.Seat charge)
answer_by_decision r s may_wait Full = answer_without_seat r s may_wait

-- to a party that has nothing
abbrev pub to_away : Rules → State → Client → Ask → Reply × Effect
to_away r s client (ask.Seat may_wait) = answer_by_decision r s may_wait (decide r s client)
to_away r s client ask.GiveBack = (reply.NotHeld, effect.Nothing)
to_away r s client ask.Beat = (reply.NotHeld, effect.Nothing)
to_away r s client ask.Look = (reply.NotHeld, effect.Nothing)
to_away r s client ask.Count = (counts r s false false, effect.Nothing)

-- what a settled state answers, and what changes, by what the party has
abbrev pub answer_of : Rules → State → ℕ → Client → Ask → Place → Reply × Effect
answer_of r s party client asked (Told h) = to_told r s h asked
answer_of r s party client asked (Untold h) = to_untold r s h asked
answer_of r s party client asked (Waiting q) = to_waiting r s party q.client asked
answer_of r s party client asked Away = to_away r s client asked

abbrev pub reserve_or_open : Option ℕ → Charge
reserve_or_open None = Open
reserve_or_open (Some line) = Reserve line

-- how often the line was given
abbrev pub times : List Charge → ℕ → ℕ
times given line = count_by (λ (c : Charge). same_charge c (Reserve line)) given

-- the charge that comes next: the first RESERVE line that speaks of the client and was given fewer times than its cut number, else Open
abbrev pub next_charge : Rules → List Charge → Client → Charge
next_charge r given client = reserve_or_open (option_map number_of_limit (find (λ (m : Limit). applies r.groups client m.line && nat_lt (times given m.line.line) m.number) r.reserves))

-- holders charged anew, one after another, where these charges were given before
abbrev pub holders_anew : Rules → List Charge → List Holder → List Holder
holders_anew r given [] = []
holders_anew r given (h ∷ hs) = record h { charge = next_charge r given h.client } ∷ holders_anew r (given ++ next_charge r given h.client ∷ []) hs

-- what lingers, charged anew
abbrev pub lingering_anew : Rules → List Charge → List Lingerer → List Lingerer
lingering_anew r given [] = []
lingering_anew r given (l ∷ ls) = record l { charge = next_charge r given l.client } ∷ lingering_anew r (given ++ next_charge r given l.client ∷ []) ls

-- all charges given anew, by these rules: to the holders in order of party, and then to what lingers
abbrev pub with_charges_anew : Rules → State → State
with_charges_anew r s =
    record s {
      holders = holders_anew r [] s.holders;
      lingering = lingering_anew r (map (λ (h : Holder). h.charge) (holders_anew r [] s.holders)) s.lingering;
    }

-- another rule set holds, and all charges are given anew
abbrev pub reread : List Rules → State → ℕ → State
reread sets s n = with_charges_anew (set_at sets n) (record s { set = n })

-- an answer, with the state that its effect leaves
abbrev pub with_effect : State → ℕ → Client → Reply × Effect → Reply × State
with_effect s party client a = (a.0, apply s party client a.1)

-- what a settled state answers, and the state after it
abbrev pub answer_and_state : Rules → State → ℕ → Client → Ask → Reply × State
answer_and_state r s party client asked = with_effect s party client (answer_of r s party client asked (place s party))

-- what a settled state does for a request
abbrev pub step_of_task : List Rules → State → ℕ → Client → Task → Reply × State
step_of_task sets s party client (Answer asked) = answer_and_state (in_force sets s) s party client asked
step_of_task sets s party client (Reread n) = (reply.Reread n, reread sets s n)

-- one step: the state settles by the rules that hold, and then it does what is asked
abbrev pub step : List Rules → State → Request → ℕ → Reply × State
step sets s request moment = step_of_task sets (settle (in_force sets s) s moment) request.party request.client (task request.kind)
