-- The run of a trial's events.
use Rattle.std.specs.Prelude.{ℕ, zero, suc, List, [], ◌∷◌, ◌++◌, map}
use Rattle.options_machine.specs.Run.{after}
use Rattle.options_machine.specs.Step.{step}
use Rattle.options_machine.specs.declared.reply.Entry.{Entry}
use Rattle.options_machine.specs.declared.reply.Reply.{Reply}
use Rattle.trial_replay.specs.Counts.{counts_of, events_text}
use Rattle.trial_replay.specs.Events.{moment_of, request_of}
use Rattle.trial_replay.specs.Terms.{bench_sets}

-- the entry that an event makes behind these entries
abbrev pub entry_behind : List Entry → ℕ → Entry
entry_behind before event = record {
  request = request_of event;
  moment = moment_of event;
  reply = (step bench_sets (after bench_sets before) (request_of event) (moment_of event)).0;
}

-- the entries of the first so many events
unfoldable pub run_of : ℕ → List Entry
run_of zero = []
run_of (suc event) = run_of event ++ entry_behind (run_of event) event ∷ []

abbrev pub reply_in : Entry → Reply
reply_in entry = entry.reply

-- the replies of the first so many events
abbrev pub replies_of : ℕ → List Reply
replies_of events = map reply_in (run_of events)

-- the text that tells of the first so many events
abbrev pub trial_text : ℕ → List ℕ
trial_text events = events_text events (counts_of (replies_of events))
