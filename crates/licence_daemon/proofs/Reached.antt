use Rattle.std.proofs.Common.{ℕ, List, inl, inr, Result, refl}
use Rattle.door_worker.specs.Visits.{Visit}
use Rattle.licence_tool.specs.Files.{Bytes}
use Rattle.licence_tool.specs.Tool.{RefusalSays}
use Rattle.licence_tool.specs.declared.status.Status.{Status}
use Rattle.licence_tool.specs.declared.status.Status.TheVariants as tool
use Rattle.licence_daemon.specs.Asked.{AsksServe}
use Rattle.licence_daemon.specs.Ends.{ServedSays, SiteCounts, reading_in}
use Rattle.licence_daemon.specs.Serve.{ServeFiles}
use Rattle.licence_daemon.specs.Terms.{TermsRead}
use Rattle.licence_daemon.specs.declared.status.DaemonStatus.{DaemonStatus}
use Rattle.licence_daemon.specs.declared.status.DaemonStatus.TheVariants.{Tool, SiteFault, DoorFault}

-- where all files were asked for, that may be said where memory is wanted too
without_memory : (names : ServeFiles (List ℕ)) (a b f h : List (List ℕ)) → AsksServe names a b f h tool.Done → AsksServe names a b f h tool.NoMemory
without_memory names a b f h asks = elim asks as (λ x. AsksServe names a b f h tool.NoMemory) [
  | inl k ↦ absurd (k.0 refl)
  | inr k ↦ inr (k.0, k.1, record { count = k.2.count; within = k.2.within; asked = k.2.asked; ends = tt; fails = k.2.fails })
]

-- where the files are accepted, all were asked for
pub asks_all : (names : ServeFiles (List ℕ)) (a b f h : List (List ℕ)) (parties : ℕ) (kept : List (List Visit) → Type 0) (AtPath : Type 0) (old new : SiteCounts) (out_old out_new : Bytes) (OutFailed : Type 0) (terms : TermsRead) (status : DaemonStatus)
    → ServedSays parties kept AtPath old new out_old out_new OutFailed terms status → AsksServe names a b f h tool.Done → AsksServe names a b f h (reading_in status)
asks_all names a b f h parties kept AtPath old new out_old out_new OutFailed terms (Tool tool.Done) says asks = asks
asks_all names a b f h parties kept AtPath old new out_old out_new OutFailed terms (Tool tool.WriteFault) says asks = asks
asks_all names a b f h parties kept AtPath old new out_old out_new OutFailed terms SiteFault says asks = asks
asks_all names a b f h parties kept AtPath old new out_old out_new OutFailed terms DoorFault says asks = asks
asks_all names a b f h parties kept AtPath old new out_old out_new OutFailed terms (Tool tool.NoMemory) says asks = without_memory names a b f h asks
asks_all names a b f h parties kept AtPath old new out_old out_new OutFailed terms (Tool tool.Usage) says asks = absurd says
asks_all names a b f h parties kept AtPath old new out_old out_new OutFailed terms (Tool (tool.Licence fault)) says asks = absurd says
asks_all names a b f h parties kept AtPath old new out_old out_new OutFailed terms (Tool (tool.Options fault)) says asks = absurd says
asks_all names a b f h parties kept AtPath old new out_old out_new OutFailed terms (Tool (tool.MoreOptions set fault)) says asks = absurd says
asks_all names a b f h parties kept AtPath old new out_old out_new OutFailed terms (Tool (tool.Script fault)) says asks = absurd says
asks_all names a b f h parties kept AtPath old new out_old out_new OutFailed terms (Tool (tool.ReadFault file)) says asks = absurd says
asks_all names a b f h parties kept AtPath old new out_old out_new OutFailed terms (Tool (tool.FileTooLong file)) says asks = absurd says
asks_all names a b f h parties kept AtPath old new out_old out_new OutFailed terms (Tool (tool.AuditNo line)) says asks = absurd says

-- where one is refused, those up to it were
pub asks_some : {Y : Type 0} (names : ServeFiles (List ℕ)) (a b f h : List (List ℕ)) (Failed : Type 0) (heard : Result Y Status) (status : Status)
    → RefusalSays Failed heard status → AsksServe names a b f h status → AsksServe names a b f h (reading_in (Tool status))
asks_some names a b f h Failed heard tool.Done says asks = asks
asks_some names a b f h Failed heard tool.Usage says asks = asks
asks_some names a b f h Failed heard tool.WriteFault says asks = absurd says
asks_some names a b f h Failed heard tool.NoMemory says asks = asks
asks_some names a b f h Failed heard (tool.Licence fault) says asks = asks
asks_some names a b f h Failed heard (tool.Options fault) says asks = asks
asks_some names a b f h Failed heard (tool.MoreOptions set fault) says asks = asks
asks_some names a b f h Failed heard (tool.Script fault) says asks = asks
asks_some names a b f h Failed heard (tool.ReadFault file) says asks = asks
asks_some names a b f h Failed heard (tool.FileTooLong file) says asks = asks
asks_some names a b f h Failed heard (tool.AuditNo line) says asks = asks
