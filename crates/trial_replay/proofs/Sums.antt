-- Nobody waits in a trial, so each reply is of one of the ten kinds.
use Rattle.std.proofs.Common.{◌≡◌, ℕ, zero, suc, ◌+◌, Bool, true, false, cond, List, [], Option, None, Some, find, refl, ap, ◌∙◌, arith, add-one, subst}
use Rattle.lic_types.specs.declared.client.Client.{Client}
use Rattle.options_machine.specs.Decide.{decide}
use Rattle.options_machine.specs.Rules.{Rules}
use Rattle.options_machine.specs.Run.{after}
use Rattle.options_machine.specs.Settle.{settle}
use Rattle.options_machine.specs.State.{State, in_force, is_holder, is_queuer, place_of}
use Rattle.options_machine.specs.Step.{answer_by_decision, answer_of, answer_of_return, entry_left, step, step_of_task, task, with_effect}
use Rattle.options_machine.specs.declared.decision.Decision.{Decision}
use Rattle.options_machine.specs.declared.decision.Decision.TheVariants.{Barred, Capped, Full, Grant, Retake}
use Rattle.options_machine.specs.declared.decision.Place.{Place}
use Rattle.options_machine.specs.declared.decision.Place.TheVariants.{Told, Untold, Waiting, Away}
use Rattle.options_machine.specs.declared.reply.Ask.{Ask}
use Rattle.options_machine.specs.declared.reply.Ask.TheVariants as ask
use Rattle.options_machine.specs.declared.reply.Kind.TheVariants.{Beat, Checkin, Checkout, Look}
use Rattle.options_machine.specs.declared.reply.Reply.{Reply}
use Rattle.options_machine.specs.declared.reply.Task.{Task}
use Rattle.options_machine.specs.declared.reply.Task.TheVariants.{Answer}
use Rattle.options_machine.specs.declared.rows.Holder.{Holder}
use Rattle.options_machine.specs.declared.rows.Lingerer.{Lingerer}
use Rattle.options_machine.specs.declared.rows.Queuer.{Queuer}
use Rattle.trial_replay.specs.Counted.{with_reply}
use Rattle.trial_replay.specs.Counts.{counts_of, total_of}
use Rattle.trial_replay.specs.Events.{moment_of, request_of}
use Rattle.trial_replay.specs.Replayed.{entry_behind, replies_of, run_of}
use Rattle.trial_replay.specs.Terms.{bench_sets}
use Rattle.trial_replay.specs.declared.counts.Counts.{Counts}
use Rattle.trial_replay.proofs.Counting.{counts_with}
use Rattle.trial_replay.proofs.Running.{replies_next, state_next}

-- a reply that is counted
abbrev IsCounted : Reply → Type 0
IsCounted said = (c : Counts) → total_of (with_reply c said) ≡ total_of c + 1

-- it is counted, and nobody waits
record IsFine (answer : Reply × State) : Type 0 where
  counted : IsCounted answer.0
  nobody : answer.1.queue ≡ []

-- a place of a party that doesn't wait
abbrev is_unqueued : Place → Bool
is_unqueued (Waiting q) = false
is_unqueued other = true

by_return : (s : State) (party : ℕ) (client : Client) (left : Option Lingerer) → s.queue ≡ [] → IsFine (with_effect s party client (answer_of_return left))
by_return s party client None nobody = record { counted = λ c. omega arith; nobody = nobody }
by_return s party client (Some l) nobody = record { counted = λ c. omega arith; nobody = nobody }

by_decision : (r : Rules) (s : State) (party : ℕ) (client : Client) (d : Decision) → s.queue ≡ [] → IsFine (with_effect s party client (answer_by_decision r s false d))
by_decision r s party client (Barred line) nobody = record { counted = λ c. omega arith; nobody = nobody }
by_decision r s party client (Retake charge) nobody = record { counted = λ c. omega arith; nobody = nobody }
by_decision r s party client (Capped line) nobody = record { counted = λ c. omega arith; nobody = nobody }
by_decision r s party client (Grant charge) nobody = record { counted = λ c. omega arith; nobody = nobody }
by_decision r s party client Full nobody = record { counted = λ c. omega arith; nobody = nobody }

-- what an event may ask
data IsAsked : Ask → Type 0 where
  seat : IsAsked (ask.Seat false)
  back : IsAsked ask.GiveBack
  beat : IsAsked ask.Beat
  look : IsAsked ask.Look

by_place : (r : Rules) (s : State) (party : ℕ) (client : Client) (asked : Ask) (p : Place) → IsAsked asked → is_unqueued p ≡ true → s.queue ≡ [] → IsFine (with_effect s party client (answer_of r s party client asked p))
by_place r s party client asked (Waiting q) is un nobody = absurd cc
by_place r s party client _ (Told h) seat un nobody = record { counted = λ c. omega arith; nobody = nobody }
by_place r s party client _ (Told h) back un nobody = by_return s party client (entry_left r s h) nobody
by_place r s party client _ (Told h) beat un nobody = record { counted = λ c. omega arith; nobody = nobody }
by_place r s party client _ (Told h) look un nobody = record { counted = λ c. omega arith; nobody = nobody }
by_place r s party client _ (Untold h) seat un nobody = record { counted = λ c. omega arith; nobody = nobody }
by_place r s party client _ (Untold h) back un nobody = record { counted = λ c. omega arith; nobody = nobody }
by_place r s party client _ (Untold h) beat un nobody = record { counted = λ c. omega arith; nobody = nobody }
by_place r s party client _ (Untold h) look un nobody = record { counted = λ c. omega arith; nobody = nobody }
by_place r s party client _ Away seat un nobody = by_decision r s party client (decide r s client) nobody
by_place r s party client _ Away back un nobody = record { counted = λ c. omega arith; nobody = nobody }
by_place r s party client _ Away beat un nobody = record { counted = λ c. omega arith; nobody = nobody }
by_place r s party client _ Away look un nobody = record { counted = λ c. omega arith; nobody = nobody }

unqueued : (o : Option Holder) → is_unqueued (place_of o None) ≡ true
unqueued None = refl
unqueued (Some h) = told h.told
  where
    told : (b : Bool) → is_unqueued (place_of (Some (record h { told = b })) None) ≡ true
    told true = refl
    told false = refl

-- where nobody waits, no party does
place_unqueued : (s : State) (party : ℕ) → s.queue ≡ [] → is_unqueued (place_of (find (is_holder party) s.holders) (find (is_queuer party) s.queue)) ≡ true
place_unqueued s party nobody = ap (λ (qs : List Queuer). is_unqueued (place_of (find (is_holder party) s.holders) (find (is_queuer party) qs))) nobody ∙ unqueued (find (is_holder party) s.holders)

by_task : (sets : List Rules) (s : State) (party : ℕ) (client : Client) (asked : Ask) → IsAsked asked → s.queue ≡ [] → IsFine (step_of_task sets s party client (Answer asked))
by_task sets s party client asked is nobody = by_place (in_force sets s) s party client asked _ is (place_unqueued s party nobody) nobody

settled_nobody : (r : Rules) (s : State) (moment : ℕ) → s.queue ≡ [] → (settle r s moment).queue ≡ []
settled_nobody r s moment nobody = rw nobody refl

-- the task of an event
data IsOfEvent : Task → Type 0 where
  asks : (asked : Ask) → IsAsked asked → IsOfEvent (Answer asked)

by_step : (sets : List Rules) (s : State) (party : ℕ) (client : Client) (t : Task) → IsOfEvent t → s.queue ≡ [] → IsFine (step_of_task sets s party client t)
by_step sets s party client _ (asks asked is) nobody = by_task sets s party client asked is nobody

kind_task : (a b c : Bool) → IsOfEvent (task (cond a Checkout (cond b Checkin (cond c Beat Look))))
kind_task true b c = asks (ask.Seat false) seat
kind_task false true c = asks ask.GiveBack back
kind_task false false true = asks ask.Beat beat
kind_task false false false = asks ask.Look look

event_fine : (s : State) (event : ℕ) → s.queue ≡ [] → IsFine (step bench_sets s (request_of event) (moment_of event))
unfolding request_of
event_fine s event nobody = by_step bench_sets (settle (in_force bench_sets s) s (moment_of event)) _ _ _ (kind_task _ _ _) (settled_nobody (in_force bench_sets s) s (moment_of event) nobody)

-- after so many events nobody waits, and all replies are counted
record AreCounted (events : ℕ) : Type 0 where
  nobody : (after bench_sets (run_of events)).queue ≡ []
  total : total_of (counts_of (replies_of events)) ≡ events

counted_first : AreCounted 0
unfolding run_of
counted_first = record { nobody = refl; total = refl }

counted_next : (event : ℕ) → AreCounted event → AreCounted (event + 1)
counted_next event h =
    let fine = event_fine (after bench_sets (run_of event)) event h.nobody in
    record {
      nobody = ap (λ (s : State). s.queue) (state_next event) ∙ fine.nobody;
      total =
          ap (λ rs. total_of (counts_of rs)) (replies_next event)
          ∙ (ap total_of (counts_with (replies_of event) (entry_behind (run_of event) event).reply)
          ∙ (fine.counted (counts_of (replies_of event)) ∙ ap (λ n. n + 1) h.total));
    }

counted_all : (events : ℕ) → AreCounted events
counted_all zero = counted_first
counted_all (suc event) = subst AreCounted (add-one event) (counted_next event (counted_all event))

-- the ten counts of so many events add up to them
pub all_counted : (events : ℕ) → total_of (counts_of (replies_of events)) ≡ events
all_counted events = (counted_all events).total
