use Rattle.std.specs.Prelude.{ℕ, ◌≤◌, Bool, false, ◌&&◌, not, nat_eq, nat_le, if◌then◌else◌, List, [], ◌∷◌, length, map, Option, None, Some, codes, ◌==◌, slice_get, string_bytes}
use Rattle.std.specs.List.{list_all}
use Rattle.std.specs.Cmp.Lexicographic.{pointwise}
use Rattle.std.specs.Option.{option_map}
use Rattle.licence_tool.specs.declared.command.Command.{Command}
use Rattle.licence_tool.specs.Numbers.{number_within}
use Rattle.licence_tool.specs.declared.command.Command.TheVariants.{Check as Checks, Replay as Replays, Audit as Audits, Trial as Trials}
use Rattle.licence_tool.specs.declared.command.LogReport.{LogReport}
use Rattle.licence_tool.specs.declared.command.LogReport.TheVariants.{Users, Days}
use Rattle.licence_tool.specs.declared.command.RunNames.{RunNames}
use Rattle.licence_tool.specs.declared.command.ScriptReport.{ScriptReport}
use Rattle.licence_tool.specs.declared.command.ScriptReport.TheVariants.{Replies, Pools}
use Rattle.licence_tool.specs.declared.command.Third.{Third}
use Rattle.licence_tool.specs.declared.command.Third.TheVariants.{Script, Log}

-- the files of a check: their names, or what is told or read of them
pub record CheckFiles (A : Type 0) : Type 0 where
  pub licence : A
  pub options : A

-- the files of a replay or a report, or of an audit or a usage, of which the third is the script or the log: their names, or what is told or read of them
pub record RunFiles (A : Type 0) : Type 0 where
  pub licence : A
  pub options : A
  pub third : A
  pub more : List A

-- a command with the names of its files, or with what is told or read of them; a replay tells the replies to a script, and a report how the pools stand after it; an audit tells of a log's users, and a usage of its days; a trial names no file, but how many events it has
pub data CommandOf (A : Type 0) : Type 0 where
  Check : (files : CheckFiles A) → CommandOf A
  Replay : (kind : ScriptReport) (files : RunFiles A) → CommandOf A
  Audit : (report : LogReport) (files : RunFiles A) → CommandOf A
  Trial : (events : ℕ) → CommandOf A

abbrev pub is_dash : Option ℕ → Bool
is_dash None = false
is_dash (Some b) = b == 45

-- a word that may name a file: it isn't empty and doesn't begin with `-`
abbrev pub is_plain_word : List ℕ → Bool
is_plain_word word = not (length word == 0) && not (is_dash (slice_get word 0))

-- the check of two words that may name files
abbrev pub check_of : List (List ℕ) → Option (CommandOf (List ℕ))
check_of (licence ∷ options ∷ []) =
    if list_all is_plain_word (licence ∷ options ∷ []) then Some (Check (record { licence = licence; options = options })) else None
check_of words = None

-- the files of a replay, a report, an audit or a usage: three to six words that may name files
abbrev pub run_of : List (List ℕ) → Option (RunFiles (List ℕ))
run_of (licence ∷ options ∷ third ∷ more) =
    if list_all is_plain_word (licence ∷ options ∷ third ∷ more) && nat_le (length more) 3
    then Some (record { licence = licence; options = options; third = third; more = more }) else None
run_of words = None

-- how many events the words of a trial ask for: one word, a number from 1 to 1,000,000
abbrev pub events_of : List (List ℕ) → Option ℕ
events_of (word ∷ []) = number_within 1 1000000 word
events_of words = None

-- the command set: `check` with two words that may name files, `replay`, `report`, `audit` and `usage` with three to six, and `trial-replay` with a number of events
abbrev pub command_of : List (List ℕ) → Option (CommandOf (List ℕ))
command_of [] = None
command_of (verb ∷ names) =
    if pointwise nat_eq verb (codes "check") then check_of names
    else (if pointwise nat_eq verb (codes "replay") then option_map (Replay Replies) (run_of names)
    else (if pointwise nat_eq verb (codes "report") then option_map (Replay Pools) (run_of names)
    else (if pointwise nat_eq verb (codes "audit") then option_map (Audit Users) (run_of names)
    else (if pointwise nat_eq verb (codes "usage") then option_map (Audit Days) (run_of names)
    else (if pointwise nat_eq verb (codes "trial-replay") then option_map Trial (events_of names) else None)))))

abbrev pub run_named : RunNames → RunFiles (List ℕ)
run_named names = record { licence = names.licence.now; options = names.options.now; third = names.third.now; more = map string_bytes names.more.now }

-- a command as the names of its files
abbrev pub file_names : Command → CommandOf (List ℕ)
file_names (Checks licence options) = Check (record { licence = licence.now; options = options.now })
file_names (Replays kind names) = Replay kind (run_named names)
file_names (Audits report names) = Audit report (run_named names)
file_names (Trials events) = Trial events

-- a command names three further options files at most, and a trial has 1,000,000 events at most
abbrev pub IsWithinLimits : Command → Type 0
IsWithinLimits (Checks licence options) = Unit {0}
IsWithinLimits (Replays kind names) = length names.more.now ≤ 3
IsWithinLimits (Audits report names) = length names.more.now ≤ 3
IsWithinLimits (Trials events) = events ≤ 1000000

-- what the third file of a command is
abbrev pub third_in : Option (CommandOf (List ℕ)) → Third
third_in None = Script
third_in (Some (Check names)) = Script
third_in (Some (Replay kind names)) = Script
third_in (Some (Audit report names)) = Log
third_in (Some (Trial events)) = Script
