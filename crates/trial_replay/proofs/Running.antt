-- The run of a trial's events.
use Rattle.std.proofs.Common.{◌≡◌, ℕ, zero, suc, ◌+◌, ◌*◌, ◌<◌, ◌≤◌, Bool, true, false, cond, [], ◌∷◌, ◌++◌, length, map, Option, None, refl, sym, ap, ◌∙◌, arith, add-one, subst}
use Rattle.options_machine.proofs.Moments.{step_now}
use Rattle.options_machine.proofs.Runs.{after-snoc, run_more}
use Rattle.options_machine.specs.Run.{AsksForSet, IsBelow, IsRun, after}
use Rattle.options_machine.specs.Settle.{later_moment}
use Rattle.options_machine.specs.State.{State, opening}
use Rattle.options_machine.specs.Step.{set_asked, step}
use Rattle.options_machine.specs.declared.reply.Kind.TheVariants.{Beat, Checkin, Checkout, Look}
use Rattle.trial_replay.specs.Events.{moment_of, request_of}
use Rattle.trial_replay.specs.Replayed.{entry_behind, replies_of, reply_in, run_of}
use Rattle.trial_replay.specs.Terms.{bench_sets}
use Rattle.std.proofs.lemmas.List.{map-append}

-- no event asks for a rule set
asks_none : (a b c : Bool) → set_asked (cond a Checkout (cond b Checkin (cond c Beat Look))) ≡ None
asks_none true b c = refl
asks_none false true c = refl
asks_none false false true = refl
asks_none false false false = refl

pub event_asks : (event : ℕ) → AsksForSet bench_sets (request_of event)
unfolding request_of
event_asks event = subst (λ (o : Option ℕ). IsBelow o (length bench_sets)) (sym (asks_none _ _ _)) tt

pub event_party : (event : ℕ) → (request_of event).party < 16
unfolding request_of
event_party event = omega arith

pub run_next : (event : ℕ) → run_of (event + 1) ≡ run_of event ++ entry_behind (run_of event) event ∷ []
unfolding run_of
run_next event = rw add-one refl

pub run_first : run_of 0 ≡ []
unfolding run_of
run_first = refl

pub replies_next : (event : ℕ) → replies_of (event + 1) ≡ replies_of event ++ (entry_behind (run_of event) event).reply ∷ []
replies_next event = ap (map reply_in) (run_next event) ∙ map-append reply_in (run_of event) (entry_behind (run_of event) event ∷ [])

-- the state after one event more
pub state_next : (event : ℕ) → after bench_sets (run_of (event + 1)) ≡ (step bench_sets (after bench_sets (run_of event)) (request_of event) (moment_of event)).1
state_next event = ap (after bench_sets) (run_next event) ∙ after-snoc bench_sets opening (run_of event) (entry_behind (run_of event) event)

record Stands (event : ℕ) : Type 0 where
  run : IsRun bench_sets (run_of event)
  now : (after bench_sets (run_of event)).now ≤ 10 * event

first : Stands 0
unfolding run_of
first = record { run = tt; now = omega arith }

next : (event : ℕ) → event ≤ 1000000 → Stands event → Stands (event + 1)
next event few s =
    let now : (after bench_sets (run_of (event + 1))).now ≡ later_moment (after bench_sets (run_of event)).now (10 * event)
    = ap (λ (t : State). t.now) (state_next event) ∙ step_now bench_sets (after bench_sets (run_of event)) (request_of event) (moment_of event) in
    record {
      run = rw run_next (run_more bench_sets opening (run_of event) (entry_behind (run_of event) event) s.run (record { later = s.now; within = omega arith; fits = event_asks event; reply = refl }));
      now = let here = s.now in omega (arith, now);
    }

stands : (event : ℕ) → event ≤ 1000000 → Stands event
stands zero few = first
stands (suc event) few = subst Stands (add-one event) (next event (omega arith) (stands event (omega arith)))

-- the events are a run
pub events_run : (events : ℕ) → events ≤ 1000000 → IsRun bench_sets (run_of events)
events_run events few = (stands events few).run
