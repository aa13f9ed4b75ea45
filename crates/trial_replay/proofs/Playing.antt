-- The events of a trial, played at its book.
use Rattle.std.proofs.Common.{◌≡◌, ℕ, ◌+◌, ◌≤◌, ◌++◌, ◌∷◌, [], refl, sym, ap, ◌∙◌, arith}
use Rattle.options_machine.specs.Run.{after}
use Rattle.options_machine.specs.State.{State, opening}
use Rattle.options_machine.specs.Step.{step}
use Rattle.options_machine.specs.declared.reply.Reply.{Reply}
use Rattle.seat_book.specs.Books.{BookWithGrants}
use Rattle.trial_replay.specs.Counted.{with_reply}
use Rattle.trial_replay.specs.Counts.{counts_of, total_of}
use Rattle.trial_replay.specs.Events.{moment_of, request_of}
use Rattle.trial_replay.specs.Replayed.{entry_behind, replies_of, run_of}
use Rattle.trial_replay.specs.Terms.{bench_sets}
use Rattle.trial_replay.specs.declared.counts.Counts.{Counts}
use Rattle.trial_replay.proofs.Counting.{counts_with, total_with}
use Rattle.trial_replay.proofs.Running.{replies_next, state_next}

-- where a trial stands after so many events
pub record IsPlayed (book : BookWithGrants) (counts : Counts) (events : ℕ) : Type 0 where
  pub sets : book.sets ≡ bench_sets
  pub parties : book.parties ≡ 16
  pub reached : book.state ≡ after bench_sets (run_of events)
  pub counted : counts ≡ counts_of (replies_of events)
  pub few : total_of counts ≤ events

-- the answer to one event more
pub answer : (old new : BookWithGrants) (counts : Counts) (event : ℕ) (reply : Reply) → IsPlayed old counts event → (reply, new.state) ≡ step old.sets old.state (request_of event) (moment_of event)
    → (reply, new.state) ≡ step bench_sets (after bench_sets (run_of event)) (request_of event) (moment_of event)
answer old new counts event reply h is = is ∙ rw (h.sets, h.reached) refl

-- one event more
pub played_more : (old new : BookWithGrants) (before after_it : Counts) (event : ℕ) (reply : Reply) → IsPlayed old before event → (reply, new.state) ≡ step old.sets old.state (request_of event) (moment_of event)
    → (new.sets ≡ old.sets) × (new.parties ≡ old.parties) → after_it ≡ with_reply before reply → IsPlayed new after_it (event + 1)
played_more old new before after_it event reply h is same counted =
    let said = answer old new before event reply h is in
    let reply_is : reply ≡ (entry_behind (run_of event) event).reply = ap (λ (r : Reply × State). r.0) said in
    record {
      sets = same.0 ∙ h.sets;
      parties = same.1 ∙ h.parties;
      reached = ap (λ (r : Reply × State). r.1) said ∙ sym (state_next event);
      counted =
          counted
          ∙ (ap (λ (c : Counts). with_reply c reply) h.counted
          ∙ (sym (counts_with (replies_of event) reply)
          ∙ (ap (λ (r : Reply). counts_of (replies_of event ++ r ∷ [])) reply_is ∙ ap counts_of (sym (replies_next event)))));
      few = let here = h.few in rw counted (omega (arith, total_with before reply));
    }

-- counts of no reply
abbrev pub none_counted : Counts
none_counted = record { granted = 0; retaken = 0; denied = 0; no_seat = 0; already_held = 0; returned = 0; lingering = 0; not_held = 0; beaten = 0; held = 0 }

abbrev made : ℕ → ℕ → ℕ → ℕ → ℕ → ℕ → ℕ → ℕ → ℕ → ℕ → Counts
made a b c d e f g h i j = record { granted = a; retaken = b; denied = c; no_seat = d; already_held = e; returned = f; lingering = g; not_held = h; beaten = i; held = j }

all_none : (a b c d e f g h i j : ℕ) → a ≡ 0 → b ≡ 0 → c ≡ 0 → d ≡ 0 → e ≡ 0 → f ≡ 0 → g ≡ 0 → h ≡ 0 → i ≡ 0 → j ≡ 0 → made a b c d e f g h i j ≡ none_counted
all_none a b c d e f g h i j a0 b0 c0 d0 e0 f0 g0 h0 i0 j0 = rw (a0, b0, c0, d0, e0, f0, g0, h0, i0, j0) refl

-- counts that are all 0
pub no_counts : (c : Counts) → c.granted ≡ 0 → c.retaken ≡ 0 → c.denied ≡ 0 → c.no_seat ≡ 0 → c.already_held ≡ 0 → c.returned ≡ 0 → c.lingering ≡ 0 → c.not_held ≡ 0 → c.beaten ≡ 0 → c.held ≡ 0 → c ≡ none_counted
no_counts c = all_none c.granted c.retaken c.denied c.no_seat c.already_held c.returned c.lingering c.not_held c.beaten c.held

-- before the first event
pub played_first : (book : BookWithGrants) → book ≡ record { sets = bench_sets; parties = 16; state = opening; grants = 0 } → IsPlayed book none_counted 0
unfolding run_of
played_first book is = record { sets = rw is refl; parties = rw is refl; reached = rw is refl; counted = refl; few = omega arith }
