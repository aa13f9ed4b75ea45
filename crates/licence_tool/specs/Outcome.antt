use Rattle.std.specs.Prelude.{ℕ, ◌+◌, nat_lt, if◌then◌else◌, ◌==◌, List, [], ◌∷◌, ◌++◌, length, map, ◌≡◌, None, Some, Result, Ok, Err}
use Rattle.check_text.specs.Check.{check_of}
use Rattle.feature_lines.specs.Licence.{Contents, licence_of}
use Rattle.feature_lines.specs.declared.pool.Pool.{Pool}
use Rattle.log_audit.specs.Audited.{sets_of}
use Rattle.log_audit.specs.Log.{log_of}
use Rattle.log_audit.specs.Summed.{Summed}
use Rattle.log_audit.specs.declared.log.Numbered.{Numbered}
use Rattle.options_machine.specs.Rules.{Rules}
use Rattle.options_text.specs.Answers.{◌>>=◌}
use Rattle.options_text.specs.Options.{OptionsFile, options_of}
use Rattle.options_text.specs.declared.fault.OptionsFault.{OptionsFault}
use Rattle.script_text.specs.Script.{script_of}
use Rattle.script_text.specs.Line.{AskedLine}
use Rattle.scripts.specs.Reports.{report_of}
use Rattle.scripts.specs.Script.{output_of}
use Rattle.trial_replay.specs.Replayed.{trial_text}
use Rattle.licence_tool.specs.AuditText.{IsNo, IsYes, yes_text}
use Rattle.licence_tool.specs.UsageText.{IsUsage, IsUsageText}
use Rattle.licence_tool.specs.Command.{Audit, CheckFiles, CommandOf, Check, Replay, RunFiles, Trial}
use Rattle.licence_tool.specs.Files.{Bytes}
use Rattle.licence_tool.specs.declared.command.LogReport.{LogReport}
use Rattle.licence_tool.specs.declared.command.LogReport.TheVariants.{Users, Days}
use Rattle.licence_tool.specs.declared.command.ScriptReport.{ScriptReport}
use Rattle.licence_tool.specs.declared.command.ScriptReport.TheVariants.{Replies, Pools}
use Rattle.licence_tool.specs.declared.reading.TheConstants.{FILE_LIMIT}
use Rattle.licence_tool.specs.declared.status.Status.{Status}
use Rattle.licence_tool.specs.declared.status.Status.TheVariants.{Licence, Options, MoreOptions, Script, ReadFault, FileTooLong}

-- the bytes of the file at this position, unless its reading failed or it is longer than 1,048,576 bytes
abbrev pub bytes_or_status : ℕ → Bytes → Result (List ℕ) Status
bytes_or_status position None = Err (ReadFault position)
bytes_or_status position (Some bytes) = if nat_lt FILE_LIMIT (length bytes) then Err (FileTooLong position) else Ok bytes

-- what a file says, or the status of its fault
abbrev pub value_or_status : {X E : Type 0} → (E → Status) → Result X E → Result X Status
value_or_status refused (Ok x) = Ok x
value_or_status refused (Err fault) = Err (refused fault)

-- the licence file, which is the first
unfoldable pub licence_heard : Bytes → Result Contents Status
licence_heard reading = bytes_or_status 1 reading >>= λ bytes. value_or_status Licence (licence_of bytes)

-- the position of the options file of a rule set: OPTIONS has number 0 and stands second, the further ones stand behind the third file
abbrev pub position_of_set : ℕ → ℕ
position_of_set set = if set == 0 then 2 else 3 + set

-- the status where the options file of a rule set is refused
abbrev pub options_status : ℕ → OptionsFault → Status
options_status set fault = if set == 0 then Options fault else MoreOptions set fault

-- the options file of the rule set of this number
unfoldable pub options_heard : ℕ → Bytes → Result OptionsFile Status
options_heard set reading = bytes_or_status (position_of_set set) reading >>= λ bytes. value_or_status (options_status set) (options_of bytes)

-- the script, which is the third file
unfoldable pub script_heard : Bytes → Result (List AskedLine) Status
script_heard reading = bytes_or_status 3 reading >>= λ bytes. value_or_status Script (script_of bytes)

-- the entries of the log, which is the third file, at so many pools
unfoldable pub log_heard : ℕ → Bytes → Result (List Numbered) Status
log_heard pools reading = bytes_or_status 3 reading >>= λ bytes. value_or_status Script (log_of pools bytes)

-- the options of these rule sets, and behind them those of the further options files, each of which is of the rule set whose number is how many stand before it
unfoldable pub sets_heard : List OptionsFile → List Bytes → Result (List OptionsFile) Status
sets_heard sets [] = Ok sets
sets_heard sets (reading ∷ readings) = options_heard (length sets) reading >>= λ options. sets_heard (sets ++ options ∷ []) readings

-- what is due where all files are accepted: this text, or the verdict on the entries of a log at these pools with these rule sets, with what is to be told of a run
pub data Due : Type 0 where
  Text : (text : List ℕ) → Due
  Verdict : (report : LogReport) (pools : List Pool) (rules : List (List Rules)) (log : List Numbered) → Due

-- this text is the report on a log that is a run of these pools, with these sums
abbrev pub IsRunText : LogReport → List Pool → Summed → List ℕ → Type 0
IsRunText Users pools sums text = text ≡ yes_text sums
IsRunText Days pools sums text = IsUsageText pools sums.days text

-- this text is what is due, and the command is done with it
abbrev pub IsTold : Due → List ℕ → Type 0
IsTold (Text due) text = text ≡ due
IsTold (Verdict Users pools rules log) text = IsYes rules log text
IsTold (Verdict Days pools rules log) text = IsUsage pools rules log text

-- this text is what is due, and tells that this line is the first that shows that the log is no run
abbrev pub IsRefuted : Due → ℕ → List ℕ → Type 0
IsRefuted (Text due) line text = ⊥
IsRefuted (Verdict report pools rules log) line text = IsNo rules log line text

-- what comes of a check: its text, or the status of the first file at fault
abbrev pub check_outcome : CheckFiles Bytes → Result Due Status
check_outcome readings =
    licence_heard readings.licence >>= λ licence.
    (options_heard 0 readings.options >>= λ options.
    Ok (Text (check_of licence options)))

-- what comes of a replay, a report, an audit or a usage, by what is heard of its third file under a licence and what is due for that, or the status of the first file at fault
abbrev pub run_outcome : {T : Type 0} → (Contents → Bytes → Result T Status) → (Contents → List OptionsFile → T → Due) → RunFiles Bytes → Result Due Status
run_outcome third_heard due readings =
    licence_heard readings.licence >>= λ licence.
    (options_heard 0 readings.options >>= λ options.
    (third_heard licence readings.third >>= λ third.
    (sets_heard (options ∷ []) readings.more >>= λ sets.
    Ok (due licence sets third))))

-- what is told of a script at these pools, by the rules of these options files: its replies, or how the pools stand after it
abbrev pub script_output : ScriptReport → List Pool → List OptionsFile → List AskedLine → List ℕ
script_output Replies pools sets script = output_of pools sets script
script_output Pools pools sets script = report_of pools sets script

-- what comes of a replay or a report: what is told of its script
abbrev pub replay_outcome : ScriptReport → RunFiles Bytes → Result Due Status
replay_outcome kind readings = run_outcome (λ licence. script_heard) (λ licence sets script. Text (script_output kind licence.pools sets script)) readings

-- what comes of an audit or a usage: the verdict on the log's entries
abbrev pub audit_outcome : LogReport → RunFiles Bytes → Result Due Status
audit_outcome report readings =
    run_outcome (λ licence. log_heard (length licence.pools)) (λ licence sets log. Verdict report licence.pools (map (sets_of sets) licence.pools) log) readings

-- what comes of a command by what is read of its files: what is due, or the status of the first file at fault
abbrev pub outcome_of : CommandOf Bytes → Result Due Status
outcome_of (Check readings) = check_outcome readings
outcome_of (Replay kind readings) = replay_outcome kind readings
outcome_of (Audit report readings) = audit_outcome report readings
outcome_of (Trial events) = Ok (Text (trial_text events))
