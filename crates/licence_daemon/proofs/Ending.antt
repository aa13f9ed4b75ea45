use Rattle.std.proofs.Common.{◌≡◌, ℕ, ◌<◌, inl, inr, List, Vec, sym, subst}
use Rattle.daemon_run.specs.Ends.{HasCause, WhereServed, WhereUnserved}
use Rattle.daemon_run.specs.Gives.{no_sessions}
use Rattle.daemon_run.specs.Join.{Ran}
use Rattle.daemon_run.specs.declared.ended.Ended.{Ended}
use Rattle.daemon_run.specs.declared.ended.Ended.TheVariants.{SiteFault as Unserved, Served, DoorFault as Broken}
use Rattle.desk_logs.proofs.Endings.{ends_same}
use Rattle.desk_logs.specs.Text.{logs_text}
use Rattle.door_worker.specs.Visits.{Visit}
use Rattle.feature_desk.specs.Sitters.{DeskView, Sitter}
use Rattle.licence_office.specs.declared.closing.OfficeEnd.{OfficeEnd}
use Rattle.licence_tool.specs.Files.{Bytes}
use Rattle.office_view.specs.View.{View}
use Rattle.outside.specs.Told.{TakesPrefix, held_after}
use Rattle.licence_daemon.specs.Daemon.{HasRun}
use Rattle.licence_daemon.specs.Ends.{IsEnding, ServedSays, SiteCounts}
use Rattle.licence_daemon.specs.Terms.{TermsRead}
use Rattle.licence_daemon.specs.declared.status.DaemonStatus.{DaemonStatus}
use Rattle.licence_daemon.proofs.Ranging.{IsOpened, ends_of, ran_under}

module _ {Z : Type 0} (terms : TermsRead) (parties : ℕ) (office : View DeskView) (passes : List (Vec Sitter Z)) (kept : List (List Visit) → Type 0) (AtPath : Type 0) (old new : SiteCounts) where
  -- a daemon ran, of whose text this is so
  has_run : (end : OfficeEnd) → 0 < parties → IsOpened terms parties office passes → Ran office passes kept old.rings new.rings end → AtPath
      → (IsText : List ℕ → Type 0) → IsText (logs_text end.logs.items end.tallies.items) → HasRun terms parties kept old.rings new.rings AtPath IsText
  has_run end some o r path IsText text = record {
    histories = r.histories;
    are = ran_under terms parties office passes kept old.rings new.rings end some o r;
    at_path = path;
    text = subst IsText (ends_same end.logs.items end.tallies.items r.histories (ends_of office passes kept old.rings new.rings end r)) text;
  }

  -- how a `serve` ends whose daemon so ended, by what was written then
  pub served_says : (ended : Ended) (out_old out_new : Bytes) (OutFailed : Type 0) (status : DaemonStatus) → 0 < parties → IsOpened terms parties office passes
      → HasCause ended old.faults new.faults old.tolls new.tolls old.broken new.broken
      → WhereServed ended (λ end. AtPath) → WhereUnserved ended ((posts : ℕ) × kept (no_sessions posts)) → WhereServed ended (λ end. Ran office passes kept old.rings new.rings end)
      → IsEnding ended out_old out_new OutFailed status → ServedSays parties kept AtPath old new out_old out_new OutFailed terms status
  served_says Unserved out_old out_new OutFailed status some o cause path silent ran w =
      subst (λ (s : DaemonStatus). ServedSays parties kept AtPath old new out_old out_new OutFailed terms s) (sym w.0) (w.1, cause, silent)
  served_says (Served end) out_old out_new OutFailed status some o cause path silent ran w =
      elim w as (λ x. ServedSays parties kept AtPath old new out_old out_new OutFailed terms status) [
        | inl k ↦ subst (λ (s : DaemonStatus). ServedSays parties kept AtPath old new out_old out_new OutFailed terms s) (sym k.0)
            (has_run end some o ran path (λ text. out_new ≡ held_after out_old text) k.1, cause.0, cause.1)
        | inr k ↦ subst (λ (s : DaemonStatus). ServedSays parties kept AtPath old new out_old out_new OutFailed terms s) (sym k.0)
            (has_run end some o ran path (λ text. TakesPrefix out_old out_new text) k.2, k.1)
      ]
  served_says (Broken end) out_old out_new OutFailed status some o cause path silent ran w =
      elim w as (λ x. ServedSays parties kept AtPath old new out_old out_new OutFailed terms status) [
        | inl k ↦ subst (λ (s : DaemonStatus). ServedSays parties kept AtPath old new out_old out_new OutFailed terms s) (sym k.0)
            (has_run end some o ran path (λ text. out_new ≡ held_after out_old text) k.1, cause)
        | inr k ↦ subst (λ (s : DaemonStatus). ServedSays parties kept AtPath old new out_old out_new OutFailed terms s) (sym k.0)
            (has_run end some o ran path (λ text. TakesPrefix out_old out_new text) k.2, k.1)
      ]
