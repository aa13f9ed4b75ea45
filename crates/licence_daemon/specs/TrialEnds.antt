-- How a `trial-threads` ends.
use Rattle.std.specs.Prelude.{◌≡◌, ◌⊎◌, ℕ, ◌*◌, ◌<◌, min, List, [], ◌∷◌, ◌++◌, length, slice_index_or, codes, decimal, Option, IfSome}
use Rattle.std.specs.List.{AllByRecursion, flat_map}
use Rattle.counter.specs.Account.{grants}
use Rattle.daemon_run.specs.Gives.{no_sessions}
use Rattle.door_worker.specs.Visits.{Visit}
use Rattle.licence_tool.specs.Files.{Bytes}
use Rattle.licence_tool.specs.declared.status.Status.TheVariants as tool
use Rattle.options_machine.specs.declared.reply.Entry.{Entry}
use Rattle.outside.specs.Told.{HasRisen, TakesPrefix, held_after}
use Rattle.policy.specs.Pools.{rules_of}
use Rattle.trial_rounds.specs.Rounds.{trial_setup}
use Rattle.trial_run.specs.Tried.{IsPlayed, each_alone}
use Rattle.trial_terms.specs.Terms.{no_options, trial_pool}
use Rattle.licence_daemon.specs.Daemon.{IsHistory}
use Rattle.licence_daemon.specs.declared.status.DaemonStatus.{DaemonStatus}
use Rattle.licence_daemon.specs.declared.status.DaemonStatus.TheVariants.{Tool, SiteFault, DoorFault}
use Rattle.licence_daemon.specs.declared.trial_words.TrialNumbers.{TrialNumbers}

-- the text of a trial: its numbers, how many replies brought a seat, and how often the cards were used
abbrev pub trial_text : TrialNumbers → ℕ → ℕ → List ℕ
trial_text n grants uses =
    codes "CLIENTS " ++ decimal n.clients ++ codes " SEATS " ++ decimal n.seats ++ codes " ROUNDS " ++ decimal n.rounds
    ++ codes "\nGRANTS " ++ decimal grants ++ codes "\nCARD USES " ++ decimal uses ++ codes "\n"

-- a trial of these numbers was held: one session for each client, over a talk that the client of its number and of so many rounds can have had, and one history of the trial's pool, a run of its rules, of which each session is the part of its party, and which has no other entries; its replies brought a seat once for each round of each client, the cards were used as often, and this is so of the text
pub record HasTried (n : TrialNumbers) (kept : List Visit → Type 0) (IsText : List ℕ → Type 0) : Type 0 where
  pub sessions : List Visit
  pub history : List Entry
  pub clients_are : length sessions ≡ n.clients
  pub played : (p : ℕ) (v : Visit) → p < n.clients → IsPlayed p n.rounds (trial_setup n.seats p) (slice_index_or sessions p v)
  -- the site keeps their moments
  pub keeps : kept sessions
  pub joined : IsHistory (rules_of (trial_pool n.seats) no_options ∷ []) (min n.seats n.clients) 0 (each_alone sessions) history
  pub granted : grants history ≡ n.clients * n.rounds
  pub text : IsText (trial_text n (n.clients * n.rounds) (n.clients * n.rounds))

module _ (n : TrialNumbers) (kept : List Visit → Type 0) (Unheld : Type 0) (faults_old faults_new : ℕ) (out_old out_new : Bytes) (OutFailed : Type 0) where
  -- How a `trial-threads` ends. Done comes with the whole text of its history, WriteFault with a prefix of it, where the sink's count of faults rose; SiteFault where the site's did, and then no session was held; and with it and with want of memory nothing was written.
  abbrev pub TrialSays : DaemonStatus → Type 0
  TrialSays (Tool tool.Done) = HasTried n kept (λ text. out_new ≡ held_after out_old text)
  TrialSays (Tool tool.WriteFault) = HasTried n kept (λ text. TakesPrefix out_old out_new text) × OutFailed
  TrialSays SiteFault = (out_new ≡ out_old) × HasRisen faults_old faults_new × Unheld
  TrialSays (Tool tool.NoMemory) = out_new ≡ out_old
  TrialSays DoorFault = ⊥
  TrialSays (Tool tool.Usage) = ⊥
  TrialSays (Tool (tool.Licence fault)) = ⊥
  TrialSays (Tool (tool.Options fault)) = ⊥
  TrialSays (Tool (tool.MoreOptions set fault)) = ⊥
  TrialSays (Tool (tool.Script fault)) = ⊥
  TrialSays (Tool (tool.ReadFault file)) = ⊥
  TrialSays (Tool (tool.FileTooLong file)) = ⊥
  TrialSays (Tool (tool.AuditNo line)) = ⊥

-- what is said of a `trial-threads`, where there is one
abbrev pub ForTrial : Option TrialNumbers → (TrialNumbers → Type 0) → Type 0
ForTrial command says = IfSome command says

-- where no fault rose, Done comes, unless memory is wanted
abbrev pub IsTrialComplete : Type 0 → ℕ → ℕ → DaemonStatus → Type 0
IsTrialComplete OutFailed faults_old faults_new status = ¬ OutFailed → ¬ HasRisen faults_old faults_new → (status ≡ Tool tool.Done) ⊎ (status ≡ Tool tool.NoMemory)
