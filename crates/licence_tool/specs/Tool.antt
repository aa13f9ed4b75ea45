use Rattle.std.specs.Prelude.{◌≡◌, ℕ, ◌⊎◌, true, List, [], ◌∷◌, Option, IfSome, Result, Ok, Err}
use Rattle.options_text.specs.Options.{OptionsFile}
use Rattle.outside.specs.Told.{TakesPrefix, held_after}
use Rattle.feature_lines.specs.Licence.{Contents}
use Rattle.script_text.specs.Line.{AskedLine}
use Rattle.scripts.specs.Laws.{Histories}
use Rattle.licence_tool.specs.Command.{Audit, CommandOf, Check, Replay, RunFiles, Trial}
use Rattle.licence_tool.specs.Files.{AreOfCommand, AreReadings, Bytes, IsReading, told_by}
use Rattle.licence_tool.specs.Outcome.{Due, IsRefuted, IsTold, licence_heard, options_heard, outcome_of, script_heard, script_output, sets_heard}
use Rattle.options_machine.specs.Run.{IsRun}
use Rattle.trial_replay.specs.Replayed.{run_of}
use Rattle.trial_replay.specs.Terms.{bench_sets}
use Rattle.feature_lines.specs.FaultText.{is_of_licence}
use Rattle.options_text.specs.FaultText.{is_of_options}
use Rattle.licence_tool.specs.declared.command.ScriptReport.{ScriptReport}
use Rattle.licence_tool.specs.declared.status.Status.{Status}
use Rattle.licence_tool.specs.declared.status.Status.TheVariants.{Done, Usage, Licence, Options, MoreOptions, Script, ReadFault, WriteFault, NoMemory, FileTooLong, AuditNo}

-- what is said of the files of a command, where there is a command
abbrev pub ForFiles : Option (CommandOf (List ℕ)) → (List ℕ → Bytes) → (CommandOf Bytes → Type 0) → Type 0
ForFiles command contents says = IfSome command (λ names. says (told_by contents names))

-- this comes of what may have been read of the files
pub record Comes (Failed : Type 0) (told : CommandOf Bytes) (outcome : Result Due Status) : Type 0 where
  pub readings : CommandOf Bytes
  pub are : AreOfCommand Failed told readings
  pub is : outcome_of readings ≡ outcome

-- this comes of the files at every reading that doesn't fail
abbrev pub IsSure : CommandOf Bytes → Result Due Status → Type 0
IsSure told outcome = (readings : CommandOf Bytes) → AreOfCommand ⊥ told readings → outcome_of readings ≡ outcome

-- the whole of a text that comes of the files was written
abbrev pub WritesAll : Type 0 → CommandOf Bytes → Bytes → Bytes → Type 0
WritesAll Failed told old new = (due : Due) × (text : List ℕ) × Comes Failed told (Ok due) × IsTold due text × (new ≡ held_after old text)

-- the whole of a text was written that tells that this line of the log is the first that shows that it is no run
abbrev pub WritesNo : Type 0 → CommandOf Bytes → ℕ → Bytes → Bytes → Type 0
WritesNo Failed told line old new = (due : Due) × (text : List ℕ) × Comes Failed told (Ok due) × IsRefuted due line text × (new ≡ held_after old text)

-- this text is what is due, be the command done with it or not
abbrev pub IsDue : Due → List ℕ → Type 0
IsDue due text = IsTold due text ⊎ ((line : ℕ) × IsRefuted due line text)

-- a prefix of such a text was written
abbrev pub WritesPrefix : Type 0 → CommandOf Bytes → Bytes → Bytes → Type 0
WritesPrefix Failed told old new = (due : Due) × (text : List ℕ) × Comes Failed told (Ok due) × IsDue due text × TakesPrefix old new text

-- what a status says of an answer: want of memory nothing, and one of a file that it is the answer; a read fault comes only where a reading failed
abbrev pub RefusalSays : {Y : Type 0} → Type 0 → Result Y Status → Status → Type 0
RefusalSays Failed heard NoMemory = Unit {0}
RefusalSays Failed heard (ReadFault file) = (heard ≡ Err (ReadFault file)) × Failed
RefusalSays Failed heard (FileTooLong file) = heard ≡ Err (FileTooLong file)
RefusalSays Failed heard (Licence fault) = (heard ≡ Err (Licence fault)) × (is_of_licence fault ≡ true)
RefusalSays Failed heard (Options fault) = (heard ≡ Err (Options fault)) × (is_of_options fault ≡ true)
RefusalSays Failed heard (MoreOptions set fault) = (heard ≡ Err (MoreOptions set fault)) × (is_of_options fault ≡ true)
RefusalSays Failed heard (Script fault) = heard ≡ Err (Script fault)
RefusalSays Failed heard Done = ⊥
RefusalSays Failed heard Usage = ⊥
RefusalSays Failed heard WriteFault = ⊥
RefusalSays Failed heard (AuditNo line) = ⊥

-- what a result says of what is heard of a file
abbrev pub HearingSays : {X Y : Type 0} → (X → Y) → Type 0 → Result Y Status → Result X Status → Type 0
HearingSays view Failed heard (Ok x) = heard ≡ Ok (view x)
HearingSays view Failed heard (Err status) = RefusalSays Failed heard status

-- a file was read, and the result says what is heard of it
pub record IsHeard {X Y : Type 0} (view : X → Y) (hears : Bytes → Result Y Status) (Failed : Type 0) (told : Bytes) (result : Result X Status) : Type 0 where
  pub reading : Bytes
  pub is : IsReading Failed told reading
  pub says : HearingSays view Failed (hears reading) result

-- several files were read, and the result says what is heard of them
pub record AreHeard {X Y : Type 0} (view : X → Y) (hears : List Bytes → Result Y Status) (Failed : Type 0) (told : List Bytes) (result : Result X Status) : Type 0 where
  pub readings : List Bytes
  pub are : AreReadings Failed told readings
  pub says : HearingSays view Failed (hears readings) result

-- the status that a result ends with
abbrev pub status_of : {X : Type 0} → Result X Status → Status
status_of (Ok x) = Done
status_of (Err status) = status

-- what the writing of a text says: of what the sink held before and holds now, and of its count of faults
abbrev pub WritingSays : Type 0 → Bytes → Bytes → List ℕ → Status → Type 0
WritingSays Failed old new text Done = new ≡ held_after old text
WritingSays Failed old new text WriteFault = Failed × TakesPrefix old new text
WritingSays Failed old new text NoMemory = new ≡ old
WritingSays Failed old new text Usage = ⊥
WritingSays Failed old new text (Licence fault) = ⊥
WritingSays Failed old new text (Options fault) = ⊥
WritingSays Failed old new text (MoreOptions set fault) = ⊥
WritingSays Failed old new text (Script fault) = ⊥
WritingSays Failed old new text (ReadFault file) = ⊥
WritingSays Failed old new text (FileTooLong file) = ⊥
WritingSays Failed old new text (AuditNo line) = ⊥

-- the same of what is due
abbrev pub DueSays : Type 0 → Bytes → Bytes → Due → Status → Type 0
DueSays Failed old new due Done = (text : List ℕ) × IsTold due text × (new ≡ held_after old text)
DueSays Failed old new due (AuditNo line) = (text : List ℕ) × IsRefuted due line text × (new ≡ held_after old text)
DueSays Failed old new due WriteFault = Failed × ((text : List ℕ) × IsDue due text × TakesPrefix old new text)
DueSays Failed old new due NoMemory = new ≡ old
DueSays Failed old new due Usage = ⊥
DueSays Failed old new due (Licence fault) = ⊥
DueSays Failed old new due (Options fault) = ⊥
DueSays Failed old new due (MoreOptions set fault) = ⊥
DueSays Failed old new due (Script fault) = ⊥
DueSays Failed old new due (ReadFault file) = ⊥
DueSays Failed old new due (FileTooLong file) = ⊥

-- what the status of a command says of what comes of its files, of what the sink held before and holds now, and of the counts of faults
abbrev pub EndSays : Type 0 → Type 0 → Bytes → Bytes → Result Due Status → Status → Type 0
EndSays Failed OutFailed old new outcome Done = (due : Due) × (outcome ≡ Ok due) × DueSays OutFailed old new due Done
EndSays Failed OutFailed old new outcome (AuditNo line) = (due : Due) × (outcome ≡ Ok due) × DueSays OutFailed old new due (AuditNo line)
EndSays Failed OutFailed old new outcome WriteFault = (due : Due) × (outcome ≡ Ok due) × DueSays OutFailed old new due WriteFault
EndSays Failed OutFailed old new outcome NoMemory = (new ≡ old) × RefusalSays Failed outcome NoMemory
EndSays Failed OutFailed old new outcome Usage = (new ≡ old) × RefusalSays Failed outcome Usage
EndSays Failed OutFailed old new outcome (Licence fault) = (new ≡ old) × RefusalSays Failed outcome (Licence fault)
EndSays Failed OutFailed old new outcome (Options fault) = (new ≡ old) × RefusalSays Failed outcome (Options fault)
EndSays Failed OutFailed old new outcome (MoreOptions set fault) = (new ≡ old) × RefusalSays Failed outcome (MoreOptions set fault)
EndSays Failed OutFailed old new outcome (Script fault) = (new ≡ old) × RefusalSays Failed outcome (Script fault)
EndSays Failed OutFailed old new outcome (ReadFault file) = (new ≡ old) × RefusalSays Failed outcome (ReadFault file)
EndSays Failed OutFailed old new outcome (FileTooLong file) = (new ≡ old) × RefusalSays Failed outcome (FileTooLong file)

-- what was read of the files of a replay or a report was accepted, the histories that its script makes are lawful runs, and what is told of them was written
pub record TellsHistories (kind : ScriptReport) (readings : RunFiles Bytes) (old new : Bytes) : Type 0 where
  pub licence : Contents
  pub options : OptionsFile
  pub script : List AskedLine
  pub sets : List OptionsFile
  pub licence_is : licence_heard readings.licence ≡ Ok licence
  pub options_is : options_heard 0 readings.options ≡ Ok options
  pub script_is : script_heard readings.third ≡ Ok script
  pub sets_is : sets_heard (options ∷ []) readings.more ≡ Ok sets
  pub histories : Histories licence.pools sets script
  pub written : new ≡ held_after old (script_output kind licence.pools sets script)

-- what a status says of the histories of a replay or a report, and that a trial's events are a run of its pool's rules
abbrev pub HistoriesSay : CommandOf Bytes → Bytes → Bytes → Status → Type 0
HistoriesSay (Check readings) old new status = Unit {0}
HistoriesSay (Audit report readings) old new status = Unit {0}
HistoriesSay (Trial events) old new status = IsRun bench_sets (run_of events)
HistoriesSay (Replay kind readings) old new Done = TellsHistories kind readings old new
HistoriesSay (Replay kind readings) old new Usage = Unit {0}
HistoriesSay (Replay kind readings) old new WriteFault = Unit {0}
HistoriesSay (Replay kind readings) old new NoMemory = Unit {0}
HistoriesSay (Replay kind readings) old new (Licence fault) = Unit {0}
HistoriesSay (Replay kind readings) old new (Options fault) = Unit {0}
HistoriesSay (Replay kind readings) old new (MoreOptions set fault) = Unit {0}
HistoriesSay (Replay kind readings) old new (Script fault) = Unit {0}
HistoriesSay (Replay kind readings) old new (ReadFault file) = Unit {0}
HistoriesSay (Replay kind readings) old new (FileTooLong file) = Unit {0}
HistoriesSay (Replay kind readings) old new (AuditNo line) = Unit {0}

-- what was written tells of the histories that come of what may have been read of the files
abbrev pub WritesHistories : Type 0 → CommandOf Bytes → Bytes → Bytes → Type 0
WritesHistories Failed told old new = (readings : CommandOf Bytes) × AreOfCommand Failed told readings × HistoriesSay readings old new Done

-- a command was done: its files were read, and the status says what came of them
pub record IsDone (Failed OutFailed : Type 0) (told : CommandOf Bytes) (old new : Bytes) (status : Status) : Type 0 where
  pub readings : CommandOf Bytes
  pub are : AreOfCommand Failed told readings
  pub says : EndSays Failed OutFailed old new (outcome_of readings) status
  pub histories : HistoriesSay readings old new status

-- standard error gained just this line, or a prefix of it where its count of faults rose
abbrev pub GainsLine : Bytes → Bytes → Type 0 → List ℕ → Type 0
GainsLine old new Failed [] = new ≡ old
GainsLine old new Failed (b ∷ line) = (new ≡ held_after old (b ∷ line)) ⊎ (Failed × TakesPrefix old new (b ∷ line))
