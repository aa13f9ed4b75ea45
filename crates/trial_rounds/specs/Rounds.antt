-- What the rounds of a trial's client come to.
use Rattle.std.specs.Prelude.{◌≡◌, ℕ, ◌*◌, ◌<◌, ◌≤◌, ◌^◌, List, [], ◌∷◌}
use Rattle.counter.specs.Account.{grants}
use Rattle.options_machine.specs.Own.{own}
use Rattle.options_machine.specs.Rules.{Rules}
use Rattle.options_machine.specs.Run.{IsRun}
use Rattle.options_machine.specs.declared.reply.Entry.{Entry}
use Rattle.policy.specs.Pools.{rules_of}
use Rattle.session.specs.Acts.{Act, entries, talk_of}
use Rattle.session.specs.Session.{Session}
use Rattle.session.specs.Table.{Setup}
use Rattle.session.specs.declared.end.SessionEnd.{SessionEnd}
use Rattle.trial_link.specs.Plays.{IsTalk}
use Rattle.trial_terms.specs.Terms.{no_options, trial_pool}

-- what a client's session stands on: the one pool of the trial, one rule set, and the client's number
abbrev pub trial_setup : ℕ → ℕ → Setup
trial_setup seats party = record { pools = trial_pool seats ∷ []; sets = 1; parties = party ∷ [] }

-- the rules of the trial's desk: those of its pool by no options, so that no line denies, none lingers, and none times out
abbrev pub trial_sets : ℕ → List Rules
trial_sets seats = rules_of (trial_pool seats) no_options ∷ []

-- in a run of these rules, of which a client's whole session is its party's part, the party is granted a seat once in each of its rounds
abbrev pub RoundsAreGranted : Type 0
RoundsAreGranted = (seats party rounds : ℕ) (history : List Entry) (acts : List Act) (end : SessionEnd) → seats < 2 ^ 32 → party < 2 ^ 32 → 0 < rounds
    → IsRun (trial_sets seats) history → own history party ≡ entries 0 acts → Session (trial_setup seats party) acts end → IsTalk party rounds (talk_of acts) → grants (own history party) ≡ rounds

-- where each of the first parties was granted so many seats, and no other has an entry, the grants are their product
abbrev pub GrantsAdd : Type 0
GrantsAdd = (history : List Entry) (parties each : ℕ) → ((p : ℕ) → p < parties → grants (own history p) ≡ each) → ((p : ℕ) → parties ≤ p → own history p ≡ []) → grants history ≡ parties * each
