-- How a `serve` ends.
use Rattle.std.specs.Prelude.{◌≡◌, ◌⊎◌, ℕ, Bool, true, false, List, Option, IfSome, Result, Ok, Err}
use Rattle.daemon_run.specs.Gives.{no_sessions}
use Rattle.daemon_run.specs.declared.ended.Ended.{Ended}
use Rattle.daemon_run.specs.declared.ended.Ended.TheVariants.{SiteFault as Unserved, Served, DoorFault as Broken}
use Rattle.desk_logs.specs.Text.{logs_text}
use Rattle.door_worker.specs.Visits.{Visit}
use Rattle.licence_office.specs.declared.closing.OfficeEnd.{OfficeEnd}
use Rattle.licence_tool.specs.Files.{Bytes}
use Rattle.licence_tool.specs.Tool.{RefusalSays}
use Rattle.licence_tool.specs.ToolEnds.{ToolEnds}
use Rattle.licence_tool.specs.declared.status.Status.{Status}
use Rattle.licence_tool.specs.declared.status.Status.TheVariants as tool
use Rattle.licence_tool.specs.declared.words.Words.{Words}
use Rattle.outside.specs.Told.{HasRisen, TakesPrefix, held_after}
use Rattle.licence_daemon.specs.Daemon.{HasRun}
use Rattle.licence_daemon.specs.Serve.{ServeFiles, ServeWords}
use Rattle.licence_daemon.specs.Terms.{AreOfServe, TermsRead, are_all_told, terms_heard}
use Rattle.licence_daemon.specs.declared.status.DaemonStatus.{DaemonStatus}
use Rattle.licence_daemon.specs.declared.status.DaemonStatus.TheVariants.{Tool, SiteFault, DoorFault}

-- the text of an office's end was written whole and this is the status, or a prefix of it was, where the sink's count of faults rose
abbrev pub IsWritten : DaemonStatus → OfficeEnd → Bytes → Bytes → Type 0 → DaemonStatus → Type 0
IsWritten whole end old new OutFailed status =
    ((status ≡ whole) × (new ≡ held_after old (logs_text end.logs.items end.tallies.items)))
    ⊎ ((status ≡ Tool tool.WriteFault) × OutFailed × TakesPrefix old new (logs_text end.logs.items end.tallies.items))

-- what is written at a daemon's end, and its status
abbrev pub IsEnding : Ended → Bytes → Bytes → Type 0 → DaemonStatus → Type 0
IsEnding Unserved old new OutFailed status = (status ≡ SiteFault) × (new ≡ old)
IsEnding (Served end) old new OutFailed status = IsWritten (Tool tool.Done) end old new OutFailed status
IsEnding (Broken end) old new OutFailed status = IsWritten DoorFault end old new OutFailed status

-- the counts of a site
pub record SiteCounts : Type 0 where
  pub faults : ℕ
  pub tolls : ℕ
  pub rings : ℕ
  pub broken : ℕ

module _ (parties : ℕ) (kept : List (List Visit) → Type 0) (IsAtPath : Type 0) (site_old site_new : SiteCounts) (out_old out_new : Bytes) (OutFailed : Type 0) where
  -- a daemon served under these terms, and this is so of the text that its histories call for
  abbrev pub Serves : TermsRead → (List ℕ → Type 0) → Type 0
  Serves terms IsText = HasRun terms parties kept site_old.rings site_new.rings IsAtPath IsText

  -- How a `serve` ends whose files are accepted. Done and DoorFault come with the whole text of its histories: Done where the bell was heard and no door was broken, DoorFault where one was. WriteFault comes with a prefix of that text, where the sink's count of faults rose; SiteFault where the site's did, and then no post had a session; and with it and with want of memory nothing was written.
  abbrev pub ServedSays : TermsRead → DaemonStatus → Type 0
  ServedSays terms (Tool tool.Done) = Serves terms (λ text. out_new ≡ held_after out_old text) × HasRisen site_old.tolls site_new.tolls × (site_new.broken ≡ site_old.broken)
  ServedSays terms DoorFault = Serves terms (λ text. out_new ≡ held_after out_old text) × HasRisen site_old.broken site_new.broken
  ServedSays terms (Tool tool.WriteFault) = Serves terms (λ text. TakesPrefix out_old out_new text) × OutFailed
  ServedSays terms SiteFault = (out_new ≡ out_old) × HasRisen site_old.faults site_new.faults × ((posts : ℕ) × kept (no_sessions posts))
  ServedSays terms (Tool tool.NoMemory) = out_new ≡ out_old
  ServedSays terms (Tool tool.Usage) = ⊥
  ServedSays terms (Tool (tool.Licence fault)) = ⊥
  ServedSays terms (Tool (tool.Options fault)) = ⊥
  ServedSays terms (Tool (tool.MoreOptions set fault)) = ⊥
  ServedSays terms (Tool (tool.Script fault)) = ⊥
  ServedSays terms (Tool (tool.ReadFault file)) = ⊥
  ServedSays terms (Tool (tool.FileTooLong file)) = ⊥
  ServedSays terms (Tool (tool.AuditNo line)) = ⊥

  -- the files were accepted, and the daemon so ended
  abbrev pub AcceptedSays : Result TermsRead Status → DaemonStatus → Type 0
  AcceptedSays heard status = (terms : TermsRead) × (heard ≡ Ok terms) × ServedSays terms status

  -- How a `serve` ends by what is heard of its files: a status of a file is what is heard, and nothing is written then; want of memory may come before the first byte is written.
  abbrev pub ServeSays : Type 0 → Result TermsRead Status → DaemonStatus → Type 0
  ServeSays Failed heard (Tool tool.Done) = AcceptedSays heard (Tool tool.Done)
  ServeSays Failed heard (Tool tool.WriteFault) = AcceptedSays heard (Tool tool.WriteFault)
  ServeSays Failed heard SiteFault = AcceptedSays heard SiteFault
  ServeSays Failed heard DoorFault = AcceptedSays heard DoorFault
  ServeSays Failed heard (Tool tool.NoMemory) = out_new ≡ out_old
  ServeSays Failed heard (Tool tool.Usage) = ⊥
  ServeSays Failed heard (Tool (tool.Licence fault)) = (out_new ≡ out_old) × RefusalSays Failed heard (tool.Licence fault)
  ServeSays Failed heard (Tool (tool.Options fault)) = (out_new ≡ out_old) × RefusalSays Failed heard (tool.Options fault)
  ServeSays Failed heard (Tool (tool.MoreOptions set fault)) = (out_new ≡ out_old) × RefusalSays Failed heard (tool.MoreOptions set fault)
  ServeSays Failed heard (Tool (tool.Script fault)) = (out_new ≡ out_old) × RefusalSays Failed heard (tool.Script fault)
  ServeSays Failed heard (Tool (tool.ReadFault file)) = (out_new ≡ out_old) × RefusalSays Failed heard (tool.ReadFault file)
  ServeSays Failed heard (Tool (tool.FileTooLong file)) = (out_new ≡ out_old) × RefusalSays Failed heard (tool.FileTooLong file)
  ServeSays Failed heard (Tool (tool.AuditNo line)) = ⊥

  -- the files were read, and the status says what came of them
  pub record IsServed (Failed : Type 0) (told : ServeFiles Bytes) (status : DaemonStatus) : Type 0 where
    pub readings : ServeFiles Bytes
    pub are : AreOfServe Failed told readings
    pub says : ServeSays Failed (terms_heard readings) status

-- the status of the reading of the files: all are accepted where the daemon served, or could not
abbrev pub reading_in : DaemonStatus → Status
reading_in SiteFault = tool.Done
reading_in DoorFault = tool.Done
reading_in (Tool tool.WriteFault) = tool.Done
reading_in (Tool tool.Done) = tool.Done
reading_in (Tool tool.Usage) = tool.Usage
reading_in (Tool tool.NoMemory) = tool.NoMemory
reading_in (Tool (tool.Licence fault)) = tool.Licence fault
reading_in (Tool (tool.Options fault)) = tool.Options fault
reading_in (Tool (tool.MoreOptions set fault)) = tool.MoreOptions set fault
reading_in (Tool (tool.Script fault)) = tool.Script fault
reading_in (Tool (tool.ReadFault file)) = tool.ReadFault file
reading_in (Tool (tool.FileTooLong file)) = tool.FileTooLong file
reading_in (Tool (tool.AuditNo line)) = tool.AuditNo line

-- whether the daemon came to listen
abbrev pub is_begun : DaemonStatus → Bool
is_begun SiteFault = true
is_begun DoorFault = true
is_begun (Tool tool.Done) = true
is_begun (Tool tool.WriteFault) = true
is_begun (Tool tool.Usage) = false
is_begun (Tool tool.NoMemory) = false
is_begun (Tool (tool.Licence fault)) = false
is_begun (Tool (tool.Options fault)) = false
is_begun (Tool (tool.MoreOptions set fault)) = false
is_begun (Tool (tool.Script fault)) = false
is_begun (Tool (tool.ReadFault file)) = false
is_begun (Tool (tool.FileTooLong file)) = false
is_begun (Tool (tool.AuditNo line)) = false

-- this comes of the files at every reading that doesn't fail
abbrev pub IsSure : ServeFiles Bytes → Result TermsRead Status → Type 0
IsSure told outcome = (readings : ServeFiles Bytes) → AreOfServe ⊥ told readings → terms_heard readings ≡ outcome

-- Where it is told of all files what they hold, just these bytes decide what comes of them. What surely comes of the files comes, unless memory is wanted or a fault rose: Done, or the status of the file.
pub record IsComplete (Failed OutFailed : Type 0) (site_old site_new : SiteCounts) (told : ServeFiles Bytes) (status : DaemonStatus) : Type 0 where
  pub all_told : are_all_told told ≡ true → IsSure told (terms_heard told)
  pub accepted : (terms : TermsRead) → IsSure told (Ok terms) → ¬ Failed → ¬ OutFailed → ¬ HasRisen site_old.faults site_new.faults → ¬ HasRisen site_old.broken site_new.broken
      → (status ≡ Tool tool.Done) ⊎ (status ≡ Tool tool.NoMemory)
  pub refused : (refusal : Status) → IsSure told (Err refusal) → ¬ Failed → (status ≡ Tool refusal) ⊎ (status ≡ Tool tool.NoMemory)

-- what holds of a command that is no `serve`: the tool's clauses
abbrev pub EndsAsTool : Words → (List ℕ → Bytes) → List (List ℕ) → List (List ℕ) → List (List ℕ) → List (List ℕ) → Bytes → Bytes → Type 0 → Bytes → Bytes → Type 0 → DaemonStatus → Type 0
EndsAsTool words contents asked_old asked_new failed_old failed_new out_old out_new OutFailed err_old err_new ErrFailed (Tool status) =
    ToolEnds words contents asked_old asked_new failed_old failed_new out_old out_new OutFailed err_old err_new ErrFailed status
EndsAsTool words contents asked_old asked_new failed_old failed_new out_old out_new OutFailed err_old err_new ErrFailed SiteFault = ⊥
EndsAsTool words contents asked_old asked_new failed_old failed_new out_old out_new OutFailed err_old err_new ErrFailed DoorFault = ⊥

-- what is said of a `serve`, where there is one
abbrev pub ForServe : Option ServeWords → (ServeWords → Type 0) → Type 0
ForServe command says = IfSome command says
