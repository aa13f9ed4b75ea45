-- What was held at any desk.
use Rattle.std.specs.Prelude.{◌≡◌, ℕ, ◌<◌, ◌%◌, ◌^◌, List, length, get_or}
use Rattle.counter.specs.Account.{grants}
use Rattle.daemon_run.specs.Join.{IsHistory}
use Rattle.door_worker.specs.Visits.{Visit}
use Rattle.feature_desk.specs.Sitters.{DeskView}
use Rattle.options_machine.specs.declared.reply.Entry.{Entry}
use Rattle.session.specs.Table.{Setup}
use Rattle.trial_run.specs.Tried.{IsPlayed, each_alone}
use Rattle.trial_run.specs.declared.player.Trial.{Trial}

-- one session for each client, and one history of the desk, of which its close tells the grants and as many uses of the cards
pub record Held (desk : DeskView) (setup : ℕ → Setup) (clients rounds : ℕ) (kept : List Visit → Type 0) (trial : Trial) : Type 0 where
  pub sessions : List Visit
  pub history : List Entry
  pub clients_are : length sessions ≡ clients
  pub played : (p : ℕ) (v : Visit) → p < clients → IsPlayed p rounds (setup p) (get_or sessions p v)
  pub keeps : kept sessions
  pub joined : IsHistory desk 0 (each_alone sessions) history
  pub grants_are : trial.grants ≡ grants history % 2 ^ 64
  pub uses_are : trial.uses ≡ trial.grants
