use Rattle.std.specs.Prelude.{◌≡◌, ℕ, ◌≤◌, ◌<◌, true, List, [], ◌∷◌, length, map, Option, None, Some, slice_get}
use Rattle.std.specs.List.{list_all}
use Rattle.feature_lines.specs.Licence.{has_licences}
use Rattle.feature_lines.specs.declared.pool.Pool.{Pool}
use Rattle.feature_lines.specs.declared.route.Found.{Found}
use Rattle.feature_lines.specs.declared.route.Found.TheVariants.{Pool as At, Unknown, Expired}
use Rattle.options_machine.specs.declared.reply.Entry.{Entry}
use Rattle.options_machine.specs.Step.{set_asked}
use Rattle.options_machine.specs.Law.{IsLawful}
use Rattle.options_machine.specs.Run.{IsRun, after}
use Rattle.options_machine.specs.Replies.{DenialsNameTheirLine, NoSeatIsLeft}
use Rattle.options_text.specs.Entries.{is_within_limits}
use Rattle.options_text.specs.Options.{OptionsFile}
use Rattle.lic_types.specs.declared.client.RuleLine.{RuleLine}
use Rattle.std.specs.List.Sorted.{IsStrictlyIncreasing}
use Rattle.script_text.specs.Fits.{is_fit}
use Rattle.script_text.specs.Line.{AskedLine}
use Rattle.scripts.specs.Answers.{answer_text, reply_line}
use Rattle.scripts.specs.Ledgers.{Ledger, new_ledgers}
use Rattle.scripts.specs.Script.{ledger_walk, ledgers_of}
use Rattle.scripts.specs.Walk.{after_line, destination, sent_answer}

-- the entries of each ledger are a run of its rule sets
abbrev pub AreRuns : List Ledger → Type 0
AreRuns [] = Unit {0}
AreRuns (ledger ∷ ledgers) = IsRun ledger.sets ledger.run × AreRuns ledgers

-- the entries that a script makes at each pool are a run of the pool's rules
abbrev pub ScriptsAreRuns : Type 0
ScriptsAreRuns = (pools : List Pool) (files : List OptionsFile) (lines : List AskedLine) → list_all is_fit lines ≡ true → AreRuns (ledgers_of pools files lines)

-- rule lines as the reader of options gives them: each has a line of its own, and its numbers are within their limits
pub record IsOrderly (file : OptionsFile) : Type 0 where
  pub lines_rise : IsStrictlyIncreasing (map (λ (l : RuleLine). l.line) file.lines)
  pub within : list_all (λ (l : RuleLine). is_within_limits l.rule) file.lines ≡ true

-- the same of each of several options files
abbrev pub AreOrderly : List OptionsFile → Type 0
AreOrderly [] = Unit {0}
AreOrderly (file ∷ files) = IsOrderly file × AreOrderly files

-- the state that each ledger reaches is lawful, with the pool's count
abbrev pub AreLawful : List Ledger → Type 0
AreLawful [] = Unit {0}
AreLawful (ledger ∷ ledgers) = IsLawful ledger.sets ledger.pool.count (after ledger.sets ledger.run) × AreLawful ledgers

-- the state that a script leaves at each pool is lawful, where the pools are those of a licence and there are one to four options files
abbrev pub ScriptsAreLawful : Type 0
ScriptsAreLawful = (pools : List Pool) (files : List OptionsFile) (lines : List AskedLine) → 0 < length files → length files ≤ 4 → AreOrderly files → list_all has_licences pools ≡ true → AreLawful (ledgers_of pools files lines)

-- the line is the reply of an entry of one of these histories, with its place there
pub record IsReply (ledgers : List Ledger) (line : List ℕ) : Type 0 where
  pub pool : ℕ
  pub place : ℕ
  pub ledger : Ledger
  pub entry : Entry
  pub there : slice_get ledgers pool ≡ Some ledger
  pub entered : slice_get ledger.run place ≡ Some entry
  pub says : line ≡ reply_line entry.reply place

-- the same of the output line of a script line that went there, where that is a pool
abbrev pub IsAnswered : List Ledger → List ℕ → Found → Type 0
IsAnswered whole line (At at) = IsReply whole line
IsAnswered whole line Unknown = Unit {0}
IsAnswered whole line (Expired day) = Unit {0}

-- the same of a script line that asks for no rule set
abbrev pub AnswersLine : List Ledger → List Ledger → AskedLine → Option ℕ → Type 0
AnswersLine whole ledgers line None = IsAnswered whole (answer_text (sent_answer ledger_walk ledgers line (destination ledger_walk ledgers line line.feature))) (destination ledger_walk ledgers line line.feature)
AnswersLine whole ledgers line (Some n) = Unit {0}

-- the output line of each of these script lines that goes to a pool is the reply of an entry of the whole histories
abbrev pub AreAnswered : ℕ → List Ledger → List Ledger → List AskedLine → Type 0
AreAnswered sets whole ledgers [] = Unit {0}
AreAnswered sets whole ledgers (line ∷ lines) = AnswersLine whole ledgers line (set_asked line.kind) × AreAnswered sets whole (after_line ledger_walk sets ledgers line) lines

-- the output lines of a script are replies of entries of the histories that it makes
abbrev pub LinesAreReplies : Type 0
LinesAreReplies = (pools : List Pool) (files : List OptionsFile) (lines : List AskedLine) → AreAnswered (length files) (ledgers_of pools files lines) (new_ledgers pools files) lines

-- What a script makes at these pools by these options files: histories, one for each pool in their order, each a run of the pool's rule sets, in a lawful state; and the output lines are replies of their entries, with their places. In a run a denial names the line that denies, and no seat is said only where the rules find none.
pub record Histories (pools : List Pool) (files : List OptionsFile) (lines : List AskedLine) : Type 0 where
  pub pooled : map (λ (l : Ledger). l.pool) (ledgers_of pools files lines) ≡ pools
  pub runs : AreRuns (ledgers_of pools files lines)
  pub lawful : AreLawful (ledgers_of pools files lines)
  pub replies : AreAnswered (length files) (ledgers_of pools files lines) (new_ledgers pools files) lines
  pub denials : DenialsNameTheirLine
  pub no_seat : NoSeatIsLeft

-- each script makes one history at each pool
abbrev pub ScriptsArePooled : Type 0
ScriptsArePooled = (pools : List Pool) (files : List OptionsFile) (lines : List AskedLine) → map (λ (l : Ledger). l.pool) (ledgers_of pools files lines) ≡ pools
