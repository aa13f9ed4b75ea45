-- What comes of the files of a replay or a report, and the histories that its script makes.
use Rattle.std.proofs.Common.{◌≡◌, List, [], ◌∷◌, Result, Ok, Err, refl, subst}
use Rattle.feature_lines.specs.Licence.{Contents}
use Rattle.options_text.specs.Answers.{◌>>=◌}
use Rattle.options_text.specs.Options.{OptionsFile}
use Rattle.script_text.specs.Line.{AskedLine}
use Rattle.scripts.specs.Laws.{Histories}
use Rattle.licence_tool.specs.Command.{Replay, RunFiles}
use Rattle.licence_tool.specs.Files.{Bytes}
use Rattle.licence_tool.specs.Outcome.{Due, Text, licence_heard, options_heard, replay_outcome, script_heard, script_output, sets_heard}
use Rattle.licence_tool.specs.Tool.{AreHeard, HistoriesSay, IsDone, RefusalSays, TellsHistories, WritingSays}
use Rattle.licence_tool.proofs.Ends.{due_written, stops, writes}
use Rattle.licence_tool.proofs.Runs.{as_run, run_files, run_hears}
use Rattle.licence_tool.specs.declared.command.ScriptReport.{ScriptReport}
use Rattle.licence_tool.specs.declared.status.Status.{Status}
use Rattle.licence_tool.specs.declared.status.Status.TheVariants.{Done, Usage, Licence, Options, MoreOptions, Script, ReadFault, WriteFault, NoMemory, FileTooLong, AuditNo}

-- what is told of the script
abbrev pub replay_hears : ScriptReport → List Bytes → Result Due Status
replay_hears kind = run_hears (λ licence. script_heard) (λ licence options script sets. Text (script_output kind licence.pools sets script))

-- what all files say
pub record Accepted : Type 0 where
  pub licence : Contents
  pub options : OptionsFile
  pub script : List AskedLine
  pub sets : List OptionsFile

abbrev pub accepted_heard : List Bytes → Result Accepted Status
accepted_heard = run_hears (λ licence. script_heard) (λ licence options script sets. record { licence = licence; options = options; script = script; sets = sets })

-- each file says its part of that
record Parts (readings : RunFiles Bytes) (all : Accepted) : Type 0 where
  licence : licence_heard readings.licence ≡ Ok all.licence
  options : options_heard 0 readings.options ≡ Ok all.options
  script : script_heard readings.third ≡ Ok all.script
  sets : sets_heard (all.options ∷ []) readings.more ≡ Ok all.sets

-- where a whole is accepted, so is what it follows
first_part : {X Y : Type 0} (answer : Result X Status) (next : X → Result Y Status) (y : Y) → answer >>= next ≡ Ok y → (x : X) × (answer ≡ Ok x) × (next x ≡ Ok y)
first_part (Ok x) next y is = (x, refl, is)
first_part (Err status) next y is = absurd cc

parts : (readings : RunFiles Bytes) (all : Accepted) → accepted_heard (run_files readings) ≡ Ok all → Parts readings all
parts readings all is =
    let l = first_part (licence_heard readings.licence) _ all is in
    let o = first_part (options_heard 0 readings.options) _ all l.2 in
    let s = first_part (script_heard readings.third) _ all o.2 in
    let m = first_part (sets_heard (o.0 ∷ []) readings.more) _ all s.2 in
    let same : record { licence = l.0; options = o.0; script = s.0; sets = m.0 } ≡ all = cc (m.2) in
    subst (Parts readings) same (record { licence = l.1; options = o.1; script = s.1; sets = m.1 })

-- the histories are told where all is done
histories_say : (kind : ScriptReport) (readings : RunFiles Bytes) (old new : Bytes) (status : Status) → (status ≡ Done → TellsHistories kind readings old new) → HistoriesSay (Replay kind readings) old new status
histories_say kind readings old new Done tells = tells refl
histories_say kind readings old new Usage tells = tt
histories_say kind readings old new WriteFault tells = tt
histories_say kind readings old new NoMemory tells = tt
histories_say kind readings old new (Licence fault) tells = tt
histories_say kind readings old new (Options fault) tells = tt
histories_say kind readings old new (MoreOptions set fault) tells = tt
histories_say kind readings old new (Script fault) tells = tt
histories_say kind readings old new (ReadFault file) tells = tt
histories_say kind readings old new (FileTooLong file) tells = tt
histories_say kind readings old new (AuditNo line) tells = tt

-- a replay or a report was done of which a file is refused
pub replay_refused : {kind : ScriptReport} {Failed OutFailed : Type 0} {told : RunFiles Bytes} {held : Bytes} {status : Status}
    → AreHeard (λ (due : Due). due) (replay_hears kind) Failed (run_files told) (Err status) → IsDone Failed OutFailed (Replay kind told) held held status
replay_refused {kind = kind} {Failed = Failed} {OutFailed = OutFailed} {told = told} {held = held} {status = status} heard =
    let r = as_run Failed told heard.readings (λ readings. RefusalSays Failed (replay_hears kind readings) status) heard.are heard.says in
    let undone = λ (e : status ≡ Done). subst (λ (s : Status). RefusalSays Failed (replay_outcome kind r.0) s) e r.2 in
    record {
      readings = Replay kind r.0;
      are = (refl, r.1);
      says = stops Failed OutFailed held held (replay_outcome kind r.0) status refl r.2;
      histories = histories_say kind r.0 held held status (λ e. absurd (undone e));
    }

-- and one of which all are accepted
pub replay_written : {kind : ScriptReport} {Failed OutFailed : Type 0} {told : RunFiles Bytes} {old new : Bytes} {status : Status} {all : Accepted}
    → AreHeard (λ (all : Accepted). all) accepted_heard Failed (run_files told) (Ok all) → Histories all.licence.pools all.sets all.script
    → WritingSays OutFailed old new (script_output kind all.licence.pools all.sets all.script) status → IsDone Failed OutFailed (Replay kind told) old new status
replay_written {kind = kind} {Failed = Failed} {OutFailed = OutFailed} {told = told} {old = old} {new = new} {status = status} {all = all} heard histories written =
    let r = as_run Failed told heard.readings (λ readings. accepted_heard readings ≡ Ok all) heard.are heard.says in
    let p = parts r.0 all r.2 in
    let text = script_output kind all.licence.pools all.sets all.script in
    record {
      readings = Replay kind r.0;
      are = (refl, r.1);
      says = writes Failed OutFailed old new (Text text) _ status (rw (p.licence, p.options, p.script, p.sets) refl) (due_written OutFailed old new text status written);
      histories = histories_say kind r.0 old new status (λ e. record {
        licence = all.licence;
        options = all.options;
        script = all.script;
        sets = all.sets;
        licence_is = p.licence;
        options_is = p.options;
        script_is = p.script;
        sets_is = p.sets;
        histories = histories;
        written = subst (WritingSays OutFailed old new text) e written;
      });
    }
