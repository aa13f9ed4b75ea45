-- How a command ends, by what comes of its files.
use Rattle.std.proofs.Common.{◌≡◌, ℕ, List, Result, Ok, Err, refl, subst, inl}
use Rattle.licence_tool.specs.Files.{Bytes}
use Rattle.licence_tool.specs.Outcome.{Due, Text}
use Rattle.licence_tool.specs.Tool.{DueSays, EndSays, HearingSays, RefusalSays, WritingSays}
use Rattle.licence_tool.specs.declared.status.Status.{Status}
use Rattle.licence_tool.specs.declared.status.Status.TheVariants.{Done, Usage, Licence, Options, MoreOptions, Script, ReadFault, WriteFault, NoMemory, FileTooLong, AuditNo}

-- where a file is refused, nothing is written
pub stops : (Failed OutFailed : Type 0) (old new : Bytes) (outcome : Result Due Status) (status : Status) → new ≡ old → RefusalSays Failed outcome status → EndSays Failed OutFailed old new outcome status
stops Failed OutFailed old new outcome (ReadFault file) same says = (same, says)
stops Failed OutFailed old new outcome (FileTooLong file) same says = (same, says)
stops Failed OutFailed old new outcome (Script fault) same says = (same, says)
stops Failed OutFailed old new outcome (Licence fault) same says = (same, says)
stops Failed OutFailed old new outcome (Options fault) same says = (same, says)
stops Failed OutFailed old new outcome (MoreOptions set fault) same says = (same, says)
stops Failed OutFailed old new outcome NoMemory same says = (same, says)
stops Failed OutFailed old new outcome Done same says = absurd says
stops Failed OutFailed old new outcome Usage same says = absurd says
stops Failed OutFailed old new outcome WriteFault same says = absurd says
stops Failed OutFailed old new outcome (AuditNo line) same says = absurd says

-- where all files are accepted, what is due is written
pub writes : (Failed OutFailed : Type 0) (old new : Bytes) (due : Due) (outcome : Result Due Status) (status : Status) → outcome ≡ Ok due → DueSays OutFailed old new due status → EndSays Failed OutFailed old new outcome status
writes Failed OutFailed old new due outcome Done is says = (due, is, says)
writes Failed OutFailed old new due outcome WriteFault is says = (due, is, says)
writes Failed OutFailed old new due outcome (AuditNo line) is says = (due, is, says)
writes Failed OutFailed old new due outcome NoMemory is says = (says, tt)
writes Failed OutFailed old new due outcome (ReadFault file) is says = absurd says
writes Failed OutFailed old new due outcome (FileTooLong file) is says = absurd says
writes Failed OutFailed old new due outcome (Script fault) is says = absurd says
writes Failed OutFailed old new due outcome (Licence fault) is says = absurd says
writes Failed OutFailed old new due outcome (Options fault) is says = absurd says
writes Failed OutFailed old new due outcome (MoreOptions set fault) is says = absurd says
writes Failed OutFailed old new due outcome Usage is says = absurd says

-- a text that is due was written
pub due_written : (OutFailed : Type 0) (old new : Bytes) (text : List ℕ) (status : Status) → WritingSays OutFailed old new text status → DueSays OutFailed old new (Text text) status
due_written OutFailed old new text Done says = (text, refl, says)
due_written OutFailed old new text WriteFault says = (says.0, (text, inl refl, says.1))
due_written OutFailed old new text NoMemory says = says
due_written OutFailed old new text (AuditNo line) says = absurd says
due_written OutFailed old new text (ReadFault file) says = absurd says
due_written OutFailed old new text (FileTooLong file) says = absurd says
due_written OutFailed old new text (Script fault) says = absurd says
due_written OutFailed old new text (Licence fault) says = absurd says
due_written OutFailed old new text (Options fault) says = absurd says
due_written OutFailed old new text (MoreOptions set fault) says = absurd says
due_written OutFailed old new text Usage says = absurd says

-- what is written where this comes of the files: nothing where one is refused, and else what is due
abbrev pub IsWritten : Type 0 → Bytes → Bytes → Result Due Status → Status → Type 0
IsWritten OutFailed old new (Ok due) status = DueSays OutFailed old new due status
IsWritten OutFailed old new (Err refusal) status = (refusal ≡ status) × (new ≡ old)

pub ends : (Failed OutFailed : Type 0) (old new : Bytes) (outcome result : Result Due Status) (status : Status) → HearingSays (λ (due : Due). due) Failed outcome result → IsWritten OutFailed old new result status
    → EndSays Failed OutFailed old new outcome status
ends Failed OutFailed old new outcome (Ok due) status says written = writes Failed OutFailed old new due outcome status says written
ends Failed OutFailed old new outcome (Err refusal) status says written =
    subst (λ (s : Status). EndSays Failed OutFailed old new outcome s) written.0 (stops Failed OutFailed old new outcome refusal written.1 says)
