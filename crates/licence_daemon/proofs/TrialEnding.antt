-- How a trial ends.
use Rattle.std.proofs.Common.{◌≡◌, inl, inr, ℕ, ◌*◌, List, ◌∷◌, [], refl, subst}
use Rattle.door_worker.specs.Visits.{Visit}
use Rattle.feature_desk.specs.Sitters.{DeskView}
use Rattle.licence_office.specs.Offices.{IsDeskFor}
use Rattle.licence_tool.specs.Files.{Bytes}
use Rattle.licence_tool.specs.declared.status.Status.TheVariants as tool
use Rattle.outside.specs.Told.{TakesPrefix, held_after}
use Rattle.trial_run.specs.Tried.{Tried, each_alone}
use Rattle.trial_run.specs.declared.player.Trial.{Trial}
use Rattle.trial_terms.specs.Terms.{no_options, trial_pool}
use Rattle.licence_daemon.specs.TrialEnds.{HasTried, IsTrialComplete, TrialSays, trial_text}
use Rattle.licence_daemon.specs.declared.status.DaemonStatus.{DaemonStatus}
use Rattle.licence_daemon.specs.declared.status.DaemonStatus.TheVariants.{Tool, SiteFault, DoorFault}
use Rattle.licence_daemon.specs.declared.trial_words.TrialNumbers.{TrialNumbers}
use Rattle.licence_daemon.proofs.Ranging.{same_history}

-- what a trial of these numbers tells
abbrev pub Tells : TrialNumbers → (List Visit → Type 0) → Trial → Type 0
Tells n kept trial = (desk : DeskView) × IsDeskFor (no_options ∷ []) n.clients (trial_pool n.seats) desk × Tried desk n.seats n.clients n.rounds kept trial

module _ (n : TrialNumbers) (kept : List Visit → Type 0) (trial : Trial) (held : Tells n kept trial) where
  -- with a text of which this is so
  has_tried : (IsText : List ℕ → Type 0) → IsText (trial_text n trial.grants trial.uses) → HasTried n kept IsText
  has_tried IsText text =
      let desk = held.0 in
      let is = held.1 in
      let t = held.2 in
      let product = n.clients * n.rounds in
      record {
        sessions = t.sessions;
        history = t.history;
        clients_are = t.clients_are;
        played = t.played;
        keeps = t.keeps;
        joined = same_history _ _ 0 desk (each_alone t.sessions) t.history is.rules is.seats_are t.joined;
        granted = t.granted;
        text = subst (λ g. IsText (trial_text n g product)) t.grants_are (subst (λ u. IsText (trial_text n trial.grants u)) t.uses_are text);
      }

  -- its text was written
  pub whole_written : (out_old out_new : Bytes) (piece : List ℕ) → piece ≡ trial_text n trial.grants trial.uses → out_new ≡ held_after out_old piece → HasTried n kept (λ text. out_new ≡ held_after out_old text)
  whole_written out_old out_new piece e h =
      has_tried (λ text. out_new ≡ held_after out_old text) (subst (λ (text : List ℕ). out_new ≡ held_after out_old text) e h)

  -- a prefix of it was
  pub front_written : (out_old out_new : Bytes) (piece : List ℕ) → piece ≡ trial_text n trial.grants trial.uses → TakesPrefix out_old out_new piece → HasTried n kept (λ text. TakesPrefix out_old out_new text)
  front_written out_old out_new piece e h =
      has_tried (λ text. TakesPrefix out_old out_new text) (subst (λ (text : List ℕ). TakesPrefix out_old out_new text) e h)

module _ (n : TrialNumbers) (kept : List Visit → Type 0) (Unheld : Type 0) (faults_old faults_new : ℕ) (out_old out_new : Bytes) (OutFailed : Type 0) where
  -- where no fault rose, it was held, or wanted memory
  pub trial_completes : (status : DaemonStatus) → TrialSays n kept Unheld faults_old faults_new out_old out_new OutFailed status → IsTrialComplete OutFailed faults_old faults_new status
  trial_completes (Tool tool.Done) says = λ quiet stands. inl refl
  trial_completes (Tool tool.NoMemory) says = λ quiet stands. inr refl
  trial_completes (Tool tool.WriteFault) says = λ quiet stands. absurd (quiet says.1)
  trial_completes SiteFault says = λ quiet stands. absurd (stands says.1)
  trial_completes DoorFault says = absurd says
  trial_completes (Tool tool.Usage) says = absurd says
  trial_completes (Tool (tool.Licence fault)) says = absurd says
  trial_completes (Tool (tool.Options fault)) says = absurd says
  trial_completes (Tool (tool.MoreOptions set fault)) says = absurd says
  trial_completes (Tool (tool.Script fault)) says = absurd says
  trial_completes (Tool (tool.ReadFault file)) says = absurd says
  trial_completes (Tool (tool.FileTooLong file)) says = absurd says
  trial_completes (Tool (tool.AuditNo line)) says = absurd says
