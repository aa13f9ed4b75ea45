use Rattle.std.proofs.Common.{◌≡◌, ◌↔◌, ℕ, ◌≤◌, Bool, true, false, refl, ap, ◌∙◌, arith, subst, not, ◌⊎◌, inl, inr, List, Some}
use Rattle.std.specs.List.{list_any}
use Rattle.lic_types.specs.declared.client.Client.{Client}
use Rattle.options_machine.specs.declared.decision.Decision.{Decision}
use Rattle.options_machine.specs.declared.decision.Decision.TheVariants.{Barred, Retake, Capped, Grant, Full}
use Rattle.options_machine.specs.declared.decision.Place.{Place}
use Rattle.options_machine.specs.declared.decision.Place.TheVariants.{Told, Untold, Waiting, Away}
use Rattle.options_machine.specs.declared.reply.Ask.{Ask}
use Rattle.options_machine.specs.declared.reply.Ask.TheVariants as ask
use Rattle.options_machine.specs.declared.reply.Kind.{Kind}
use Rattle.options_machine.specs.declared.reply.Kind.TheVariants as kind
use Rattle.options_machine.specs.declared.reply.Reply.{Reply}
use Rattle.options_machine.specs.declared.reply.Reply.TheVariants as reply
use Rattle.options_machine.specs.declared.reply.Request.{Request}
use Rattle.options_machine.specs.declared.reply.Task.{Task}
use Rattle.options_machine.specs.declared.reply.Task.TheVariants.{Answer, Reread}
use Rattle.options_machine.specs.declared.rows.Holder.{Holder}
use Rattle.options_machine.specs.declared.rows.Queuer.{Queuer}
use Rattle.options_machine.specs.Rules.{Rules}
use Rattle.options_machine.specs.State.{State, in_force, in_use, place}
use Rattle.options_machine.specs.Decide.{decide, has_room, is_reached, number_of_limit}
use Rattle.options_machine.specs.Law.{MaxCountsLingering}
use Rattle.options_machine.specs.Step.{answer_by_decision, answer_of, answer_of_return, entry_left, lingers, standing_of, step_of_task, task, set_asked}
use Rattle.options_machine.specs.Own.{is_of_holding, is_of_queueing}
use Rattle.options_machine.specs.Replies.{DenialsNameTheirLine, IsBarredInQueue, IsDenied, IsFull, IsGranted, IsLeft, IsRetaken, IsToldLate, NoSeatIsLeft, NothingIsHeld, OwnIsNotQueued, PlacesAreGivenBack, ReservesAreUsedUp, SeatsAreGranted, SeatsAreHeldOnce, SeatsAreRetaken, SeatsAreReturned, SeatsLinger, asks_such, gives_back, goes_at_once, is_for_seat, is_for_standing, is_giving_back, is_of_own_seat, is_told, is_waiting, line_of_denial, reply_to, rules_found, state_found, asks_for_seat, is_about_own_seat}
use Rattle.options_machine.proofs.Counts.{some_found}

-- when a reply comes, by the table, for those of which a law speaks
abbrev When : Rules → State → Request → Reply → Type 0
When r s request (reply.Granted charge) = IsGranted r s request charge ⊎ ((h : Holder) × IsToldLate s request charge h)
When r s request (reply.Retaken charge) = IsRetaken r s request charge
When r s request (reply.Denied line) = IsDenied r s request line ⊎ ((q : Queuer) × IsBarredInQueue r s request line q)
When r s request (reply.NoSeat taken free) = IsFull r s request taken free
When r s request (reply.Lingering until) = IsLeft r s request until
When r s request reply.Returned = (gives_back request.kind ≡ true) × (goes_at_once r s (place s request.party) ≡ true)
When r s request reply.AlreadyHeld = (asks_for_seat request.kind ≡ true) × (is_told (place s request.party) ≡ true)
When r s request reply.Unqueued = (gives_back request.kind ≡ true) × (is_waiting (place s request.party) ≡ true)
When r s request reply.NotHeld = (is_about_own_seat request.kind ≡ true) × (place s request.party ≡ Away)
When r s request other = Unit {0}

-- each reply of the table comes when it says

checkout_of : (k : Kind) → task k ≡ Answer (ask.Seat false) → k ≡ kind.Checkout
checkout_of k e = grind arith

when_decided : (r : Rules) (s : State) (request : Request) (may_wait : Bool) (d : Decision) → task request.kind ≡ Answer (ask.Seat may_wait) → place s request.party ≡ Away → decide r s request.client ≡ d
    → When r s request (answer_by_decision r s may_wait d).0
when_decided r s request may_wait (Barred line) t a e = inl (record { asks = ap (asks_such is_for_seat) t; away = a; denied = ap line_of_denial e })
when_decided r s request may_wait (Retake charge) t a e = record { asks = ap (asks_such is_for_seat) t; away = a; retaken = e }
when_decided r s request may_wait (Capped line) t a e = inl (record { asks = ap (asks_such is_for_seat) t; away = a; denied = ap line_of_denial e })
when_decided r s request may_wait (Grant charge) t a e = inl (record { asks = ap (asks_such is_for_seat) t; away = a; granted = e })
when_decided r s request true Full t a e = tt
when_decided r s request false Full t a e = record { asks = checkout_of request.kind t; away = a; none = e; charged = refl; unreserved = refl }

when_standing : (r : Rules) (s : State) (request : Request) (q : Queuer) (d : Decision) → asks_such is_for_standing (task request.kind) ≡ true → place s request.party ≡ Waiting q → decide r s q.client ≡ d
    → When r s request (standing_of s request.party d).0
when_standing r s request q (Barred line) t a e = inr (q, record { asks = t; waits = a; barred = e })
when_standing r s request q other t a e = tt

when_given_back : (r : Rules) (s : State) (request : Request) (h : Holder) (b : Bool) → asks_such is_giving_back (task request.kind) ≡ true → place s request.party ≡ Told h → lingers r s ≡ b
    → When r s request (answer_of_return (entry_left r s h)).0
when_given_back r s request h true t a e = rw e (record { leaves = t; told = ap is_told a; stays = e; end = refl })
when_given_back r s request h false t a e = rw e (t, ap (goes_at_once r s) a ∙ ap not e)

when_answer : (r : Rules) (s : State) (request : Request) (asked : Ask) (at : Place) → task request.kind ≡ Answer asked → place s request.party ≡ at → When r s request (answer_of r s request.party request.client asked at).0
when_answer r s request (ask.Seat may_wait) Away t a = when_decided r s request may_wait (decide r s request.client) t a refl
when_answer r s request (ask.Seat may_wait) (Told h) t a = (ap (asks_such is_for_seat) t, ap is_told a)
when_answer r s request ask.GiveBack (Told h) t a = when_given_back r s request h (lingers r s) (ap (asks_such is_giving_back) t) a refl
when_answer r s request ask.GiveBack (Untold h) t a = (ap (asks_such is_giving_back) t, ap (goes_at_once r s) a)
when_answer r s request ask.GiveBack (Waiting q) t a = (ap (asks_such is_giving_back) t, ap is_waiting a)
when_answer r s request ask.Count (Told h) t a = tt
when_answer r s request ask.Count other t a = tt
when_answer r s request asked (Told h) t a = tt
when_answer r s request asked (Untold h) t a = inr (h, record { asks = ap (asks_such is_for_standing) t; untold = a; charged = refl })
when_answer r s request asked (Waiting q) t a = when_standing r s request q (decide r s q.client) (ap (asks_such is_for_standing) t) a refl
when_answer r s request asked Away t a = (ap (asks_such is_of_own_seat) t, a)

when_done : (sets : List Rules) (s : State) (request : Request) (t : Task) → task request.kind ≡ t → When (in_force sets s) s request (step_of_task sets s request.party request.client t).0
when_done sets s request (Answer asked) e = when_answer (in_force sets s) s request asked (place s request.party) e refl
when_done sets s request (Reread n) e = tt

when_reply : (sets : List Rules) (s : State) (request : Request) (moment : ℕ) (x : Reply) → reply_to sets s request moment ≡ x → When (rules_found sets s moment) (state_found sets s moment) request x
when_reply sets s request moment x e =
    subst (When (rules_found sets s moment) (state_found sets s moment) request) e (when_done sets (state_found sets s moment) request (task request.kind) refl)

-- and where it says so, that reply comes

pub seats_held_once : SeatsAreHeldOnce
seats_held_once sets s request moment = (when_reply sets s request moment reply.AlreadyHeld, λ c. grind arith)

pub places_given_back : PlacesAreGivenBack
places_given_back sets s request moment = (when_reply sets s request moment reply.Unqueued, λ c. grind arith)

pub nothing_held : NothingIsHeld
nothing_held sets s request moment = (when_reply sets s request moment reply.NotHeld, λ c. grind arith)

pub seats_linger : SeatsLinger
seats_linger sets s request moment until = (when_reply sets s request moment (reply.Lingering until), λ c. grind arith)

pub seats_returned : SeatsAreReturned
seats_returned sets s request moment = (when_reply sets s request moment reply.Returned, λ c. grind arith)

pub denials_name : DenialsNameTheirLine
denials_name sets s request moment line = (when_reply sets s request moment (reply.Denied line), λ c. grind arith)

pub seats_granted : SeatsAreGranted
seats_granted sets s request moment charge = (when_reply sets s request moment (reply.Granted charge), λ c. grind arith)

pub seats_retaken : SeatsAreRetaken
seats_retaken sets s request moment charge = (when_reply sets s request moment (reply.Retaken charge), λ c. grind arith)

pub sets_reread : (sets : List Rules) (s : State) (request : Request) (moment set : ℕ) → (reply_to sets s request moment ≡ reply.Reread set) ↔ (set_asked request.kind ≡ Some set)
sets_reread sets s request moment set = grind arith

-- no seat: none is left that no RESERVE line keeps, and the RESERVE lines are used up

full_least : (r : Rules) (s : State) (request : Request) (taken free : ℕ) → IsFull r s request taken free → free ≤ taken
full_least r s request taken free c = grind arith

pub no_seat_left : NoSeatIsLeft
no_seat_left sets s request moment taken free =
    let full : reply_to sets s request moment ≡ reply.NoSeat taken free → _ = when_reply sets s request moment (reply.NoSeat taken free) in
    ((full, λ c. grind arith), λ e. full_least (rules_found sets s moment) (state_found sets s moment) request taken free (full e))

full_reserved : (r : Rules) (s : State) (client : Client) → decide r s client ≡ Full → (list_any (has_room r s client) r.reserves ≡ false) ⊎ (r.count ≤ in_use s)
full_reserved r s client e = grind (arith, some_found number_of_limit (has_room r s client) r.reserves)

pub reserves_used_up : ReservesAreUsedUp
reserves_used_up sets s request moment taken free e =
    full_reserved (rules_found sets s moment) (state_found sets s moment) request.client (when_reply sets s request moment (reply.NoSeat taken free) e).none

-- a MAX line that is reached grants no seat
pub max_counts : MaxCountsLingering
max_counts r s client charge h e = grind (arith, some_found number_of_limit (is_reached r s client) r.maxes)

-- no reply is of holding and of queueing at once

one_of_both : (sets : List Rules) (s : State) (party : ℕ) (client : Client) (t : Task) → is_of_holding (step_of_task sets s party client t).0 ≡ true → is_of_queueing (step_of_task sets s party client t).0 ≡ false
one_of_both sets s party client t e = grind arith

pub own_not_queued : OwnIsNotQueued
own_not_queued sets s request moment = one_of_both sets (state_found sets s moment) request.party request.client (task request.kind)
