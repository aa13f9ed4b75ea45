-- What comes of the files of a check, a replay or an audit, which are read in their order.
use Rattle.std.proofs.Common.{List, [], ◌∷◌, length, map, Result, Ok, Err, refl}
use Rattle.check_text.specs.Check.{check_of}
use Rattle.feature_lines.specs.Licence.{Contents}
use Rattle.log_audit.specs.Audited.{sets_of}
use Rattle.options_text.specs.Answers.{◌>>=◌}
use Rattle.options_text.specs.Options.{OptionsFile}
use Rattle.licence_tool.specs.Command.{Audit, Check, CheckFiles, RunFiles}
use Rattle.licence_tool.specs.Files.{AreOfCheck, AreOfRun, AreReadings, Bytes}
use Rattle.licence_tool.specs.Outcome.{Due, Text, Verdict, audit_outcome, check_outcome, licence_heard, log_heard, options_heard, sets_heard}
use Rattle.licence_tool.specs.Tool.{AreHeard, HearingSays, IsDone}
use Rattle.licence_tool.proofs.Ends.{IsWritten, ends}
use Rattle.licence_tool.proofs.Readings.{in_order}
use Rattle.licence_tool.specs.declared.command.LogReport.{LogReport}
use Rattle.licence_tool.specs.declared.status.Status.{Status}
use Rattle.licence_tool.specs.declared.status.Status.TheVariants.{NoMemory}

-- by what is to come of both
abbrev pub both_heard : {Y : Type 0} → (Contents → OptionsFile → Y) → List Bytes → Result Y Status
both_heard gives = in_order (Err NoMemory) licence_heard (λ licence. in_order (Err NoMemory) (options_heard 0) (λ options readings. Ok (gives licence options)))

abbrev pub check_hears : List Bytes → Result Due Status
check_hears = both_heard (λ licence options. Text (check_of licence options))

-- by what is heard of the third file and what is to come of all
abbrev pub run_hears : {T Y : Type 0} → (Contents → Bytes → Result T Status) → (Contents → OptionsFile → T → List OptionsFile → Y) → List Bytes → Result Y Status
run_hears third_heard gives =
    in_order (Err NoMemory) licence_heard (λ licence.
    in_order (Err NoMemory) (options_heard 0) (λ options.
    in_order (Err NoMemory) (third_heard licence) (λ third readings.
    sets_heard (options ∷ []) readings >>= λ sets. Ok (gives licence options third sets))))

abbrev pub audit_hears : LogReport → List Bytes → Result Due Status
audit_hears report = run_hears (λ licence. log_heard (length licence.pools)) (λ licence options log sets. Verdict report licence.pools (map (sets_of sets) licence.pools) log)

-- the files in their order
abbrev pub check_files : CheckFiles Bytes → List Bytes
check_files files = files.licence ∷ files.options ∷ []

abbrev pub run_files : RunFiles Bytes → List Bytes
run_files files = files.licence ∷ files.options ∷ files.third ∷ files.more

-- what is said of their readings in that order is said of readings of each
pub as_check : (Failed : Type 0) (told : CheckFiles Bytes) (readings : List Bytes) (Says : List Bytes → Type 0) → AreReadings Failed (check_files told) readings → Says readings
    → (each : CheckFiles Bytes) × AreOfCheck Failed told each × Says (check_files each)
as_check Failed told [] Says are says = absurd are
as_check Failed told (l ∷ []) Says are says = absurd are.1
as_check Failed told (l ∷ o ∷ []) Says are says = (record { licence = l; options = o }, record { licence = are.0; options = are.1.0 }, says)
as_check Failed told (l ∷ o ∷ x ∷ xs) Says are says = absurd are.1.1

pub as_run : (Failed : Type 0) (told : RunFiles Bytes) (readings : List Bytes) (Says : List Bytes → Type 0) → AreReadings Failed (run_files told) readings → Says readings
    → (each : RunFiles Bytes) × AreOfRun Failed told each × Says (run_files each)
as_run Failed told [] Says are says = absurd are
as_run Failed told (l ∷ []) Says are says = absurd are.1
as_run Failed told (l ∷ o ∷ []) Says are says = absurd are.1.1
as_run Failed told (l ∷ o ∷ t ∷ m) Says are says =
    (record { licence = l; options = o; third = t; more = m }, record { licence = are.0; options = are.1.0; third = are.1.1.0; more = are.1.1.1 }, says)

-- a check was done
pub check_done : {Failed OutFailed : Type 0} {told : CheckFiles Bytes} {old new : Bytes} {status : Status} {result : Result Due Status}
    → AreHeard (λ (due : Due). due) check_hears Failed (check_files told) result → IsWritten OutFailed old new result status → IsDone Failed OutFailed (Check told) old new status
check_done {Failed = Failed} {OutFailed = OutFailed} {told = told} {old = old} {new = new} {status = status} {result = result} heard written =
    let r = as_check Failed told heard.readings (λ readings. HearingSays (λ (due : Due). due) Failed (check_hears readings) result) heard.are heard.says in
    record { readings = Check r.0; are = r.1; says = ends Failed OutFailed old new (check_outcome r.0) result status r.2 written; histories = tt }

-- an audit or a usage was done
pub audit_done : {report : LogReport} {Failed OutFailed : Type 0} {told : RunFiles Bytes} {old new : Bytes} {status : Status} {result : Result Due Status}
    → AreHeard (λ (due : Due). due) (audit_hears report) Failed (run_files told) result → IsWritten OutFailed old new result status → IsDone Failed OutFailed (Audit report told) old new status
audit_done {report = report} {Failed = Failed} {OutFailed = OutFailed} {told = told} {old = old} {new = new} {status = status} {result = result} heard written =
    let r = as_run Failed told heard.readings (λ readings. HearingSays (λ (due : Due). due) Failed (audit_hears report readings) result) heard.are heard.says in
    record { readings = Audit report r.0; are = (refl, r.1); says = ends Failed OutFailed old new (audit_outcome report r.0) result status r.2 written; histories = tt }
