-- What comes of a lint.
use Rattle.std.specs.Prelude.{◌≡◌, ◌≢◌, ◌⊎◌, ℕ, ◌&&◌, true, List, [], ◌∷◌, Option, None, Some, IfSome, is_some, Vec, Result, Ok, Err}
use Rattle.std.specs.declared.alloc.Global.{Global}
use Rattle.licence_tool.specs.Command.{CheckFiles}
use Rattle.licence_tool.specs.Files.{AreOfCheck, Bytes}
use Rattle.licence_tool.specs.Outcome.{licence_heard, options_heard}
use Rattle.licence_tool.specs.Tool.{HearingSays, RefusalSays}
use Rattle.licence_tool.specs.declared.status.Status.{Status}
use Rattle.licence_tool.specs.declared.status.Status.TheVariants as tool
use Rattle.licence_tool.specs.declared.words.Words.{Words}
use Rattle.lint_advice.specs.Advice.{advice_of}
use Rattle.lint_advice.specs.Text.{text_of}
use Rattle.lint_advice.specs.declared.advice.Advice.{Advice}
use Rattle.lint_advice.specs.declared.advice.Horizon.{Horizon}
use Rattle.options_text.specs.Answers.{◌>>=◌}
use Rattle.outside.specs.Told.{TakesPrefix, held_after}
use Rattle.licence_lint.specs.Asked.{AsksHelp}
use Rattle.licence_lint.specs.Words.{LintWords}
use Rattle.licence_lint.specs.declared.status.LintStatus.{LintStatus}
use Rattle.licence_lint.specs.declared.status.LintStatus.TheVariants.{Tool, Advised}

-- the names of the files of a lint, in their order
abbrev pub files_of : Option LintWords → List (List ℕ)
files_of None = []
files_of (Some names) = names.licence ∷ names.options ∷ []

-- what is said of the horizon of a lint and of what its files hold, as far as that is told, where there is a lint
abbrev pub ForLint : Option LintWords → (List ℕ → Bytes) → (Option Horizon → CheckFiles Bytes → Type 0) → Type 0
ForLint lint contents says = IfSome lint (λ names. says names.horizon (record { licence = contents names.licence; options = contents names.options }))

-- what comes of the files by what is read of them: the advice on them, or the status of the first file at fault
unfoldable pub advice_heard : Option Horizon → CheckFiles Bytes → Result (List Advice) Status
advice_heard horizon readings =
    licence_heard readings.licence >>= λ licence.
    (options_heard 0 readings.options >>= λ options.
    Ok (advice_of licence options horizon))

-- the files were read, and the result says what is heard of them
pub record IsHeardOf (horizon : Option Horizon) (Failed : Type 0) (told : CheckFiles Bytes) (result : Result (Vec Advice Global) Status) : Type 0 where
  pub readings : CheckFiles Bytes
  pub are : AreOfCheck Failed told readings
  pub says : HearingSays (λ (v : Vec Advice Global). v.items) Failed (advice_heard horizon readings) result

-- what the writing of advice says of what the sink held before and holds now: all of it was written where there is some, and a prefix of it where the sink's count of faults rose
abbrev pub AdviceSays : Type 0 → Bytes → Bytes → List Advice → LintStatus → Type 0
AdviceSays Failed old new advice (Tool tool.Done) = (advice ≡ []) × (new ≡ old)
AdviceSays Failed old new advice Advised = (advice ≢ []) × (new ≡ held_after old (text_of advice))
AdviceSays Failed old new advice (Tool tool.WriteFault) = (advice ≢ []) × Failed × TakesPrefix old new (text_of advice)
AdviceSays Failed old new advice (Tool tool.NoMemory) = new ≡ old
AdviceSays Failed old new advice (Tool tool.Usage) = ⊥
AdviceSays Failed old new advice (Tool (tool.Licence fault)) = ⊥
AdviceSays Failed old new advice (Tool (tool.Options fault)) = ⊥
AdviceSays Failed old new advice (Tool (tool.MoreOptions set fault)) = ⊥
AdviceSays Failed old new advice (Tool (tool.Script fault)) = ⊥
AdviceSays Failed old new advice (Tool (tool.ReadFault file)) = ⊥
AdviceSays Failed old new advice (Tool (tool.FileTooLong file)) = ⊥
AdviceSays Failed old new advice (Tool (tool.AuditNo line)) = ⊥

-- the files were accepted, this is the advice on them, and its writing so ended
abbrev pub WritesAdvice : Type 0 → Bytes → Bytes → Result (List Advice) Status → LintStatus → Type 0
WritesAdvice Failed old new heard status = (advice : List Advice) × (heard ≡ Ok advice) × AdviceSays Failed old new advice status

-- a file was refused or not read, and nothing was written
abbrev pub Refuses : Type 0 → Bytes → Bytes → Result (List Advice) Status → Status → Type 0
Refuses Failed old new heard status = (new ≡ old) × RefusalSays Failed heard status

-- how a lint ends by what is heard of its files
abbrev pub LintSays : Type 0 → Type 0 → Bytes → Bytes → Result (List Advice) Status → LintStatus → Type 0
LintSays Failed OutFailed old new heard (Tool tool.Done) = WritesAdvice OutFailed old new heard (Tool tool.Done)
LintSays Failed OutFailed old new heard Advised = WritesAdvice OutFailed old new heard Advised
LintSays Failed OutFailed old new heard (Tool tool.WriteFault) = WritesAdvice OutFailed old new heard (Tool tool.WriteFault)
LintSays Failed OutFailed old new heard (Tool tool.NoMemory) = new ≡ old
LintSays Failed OutFailed old new heard (Tool tool.Usage) = ⊥
LintSays Failed OutFailed old new heard (Tool (tool.Licence fault)) = Refuses Failed old new heard (tool.Licence fault)
LintSays Failed OutFailed old new heard (Tool (tool.Options fault)) = Refuses Failed old new heard (tool.Options fault)
LintSays Failed OutFailed old new heard (Tool (tool.MoreOptions set fault)) = Refuses Failed old new heard (tool.MoreOptions set fault)
LintSays Failed OutFailed old new heard (Tool (tool.Script fault)) = Refuses Failed old new heard (tool.Script fault)
LintSays Failed OutFailed old new heard (Tool (tool.ReadFault file)) = Refuses Failed old new heard (tool.ReadFault file)
LintSays Failed OutFailed old new heard (Tool (tool.FileTooLong file)) = Refuses Failed old new heard (tool.FileTooLong file)
LintSays Failed OutFailed old new heard (Tool (tool.AuditNo line)) = ⊥

-- the files were read, and the status says what came of them
pub record IsLinted (horizon : Option Horizon) (Failed OutFailed : Type 0) (told : CheckFiles Bytes) (old new : Bytes) (status : LintStatus) : Type 0 where
  pub readings : CheckFiles Bytes
  pub are : AreOfCheck Failed told readings
  pub says : LintSays Failed OutFailed old new (advice_heard horizon readings) status

-- how the writing of a text that was asked for ends
abbrev pub ShowSays : Type 0 → Bytes → Bytes → List ℕ → LintStatus → Type 0
ShowSays Failed old new text (Tool tool.Done) = new ≡ held_after old text
ShowSays Failed old new text (Tool tool.WriteFault) = Failed × TakesPrefix old new text
ShowSays Failed old new text Advised = ⊥
ShowSays Failed old new text (Tool tool.NoMemory) = ⊥
ShowSays Failed old new text (Tool tool.Usage) = ⊥
ShowSays Failed old new text (Tool (tool.Licence fault)) = ⊥
ShowSays Failed old new text (Tool (tool.Options fault)) = ⊥
ShowSays Failed old new text (Tool (tool.MoreOptions set fault)) = ⊥
ShowSays Failed old new text (Tool (tool.Script fault)) = ⊥
ShowSays Failed old new text (Tool (tool.ReadFault file)) = ⊥
ShowSays Failed old new text (Tool (tool.FileTooLong file)) = ⊥
ShowSays Failed old new text (Tool (tool.AuditNo line)) = ⊥

-- help or the version was asked for, and the writing of some text so ended
abbrev pub ShowsText : Type 0 → Words → Bytes → Bytes → LintStatus → Type 0
ShowsText Failed words old new status = AsksHelp words × ((text : List ℕ) × ShowSays Failed old new text status)

-- how words end that are no lint
abbrev pub IsUnlinted : Type 0 → Words → Bytes → Bytes → LintStatus → Type 0
IsUnlinted Failed words old new (Tool tool.Done) = ShowsText Failed words old new (Tool tool.Done)
IsUnlinted Failed words old new (Tool tool.WriteFault) = ShowsText Failed words old new (Tool tool.WriteFault)
IsUnlinted Failed words old new (Tool tool.NoMemory) = new ≡ old
IsUnlinted Failed words old new (Tool tool.Usage) = new ≡ old
IsUnlinted Failed words old new Advised = ⊥
IsUnlinted Failed words old new (Tool (tool.Licence fault)) = ⊥
IsUnlinted Failed words old new (Tool (tool.Options fault)) = ⊥
IsUnlinted Failed words old new (Tool (tool.MoreOptions set fault)) = ⊥
IsUnlinted Failed words old new (Tool (tool.Script fault)) = ⊥
IsUnlinted Failed words old new (Tool (tool.ReadFault file)) = ⊥
IsUnlinted Failed words old new (Tool (tool.FileTooLong file)) = ⊥
IsUnlinted Failed words old new (Tool (tool.AuditNo line)) = ⊥

-- this comes of the files at every reading that doesn't fail
abbrev pub IsSure : Option Horizon → CheckFiles Bytes → Result (List Advice) Status → Type 0
IsSure horizon told heard = (readings : CheckFiles Bytes) → AreOfCheck ⊥ told readings → advice_heard horizon readings ≡ heard

-- the status of a lint with this advice, where nothing fails
abbrev pub end_of : List Advice → LintStatus
end_of [] = Tool tool.Done
end_of (piece ∷ advice) = Advised

-- Where it is told of both files what they hold, just these bytes decide what comes of them. What surely comes of the files comes, unless memory is wanted or a fault rose.
pub record IsComplete (horizon : Option Horizon) (Failed OutFailed : Type 0) (told : CheckFiles Bytes) (status : LintStatus) : Type 0 where
  pub all_told : (is_some told.licence && is_some told.options) ≡ true → IsSure horizon told (advice_heard horizon told)
  pub accepted : (advice : List Advice) → IsSure horizon told (Ok advice) → ¬ Failed → ¬ OutFailed → (status ≡ end_of advice) ⊎ (status ≡ Tool tool.NoMemory)
  pub refused : (refusal : Status) → IsSure horizon told (Err refusal) → ¬ Failed → (status ≡ Tool refusal) ⊎ (status ≡ Tool tool.NoMemory)
