-- What a lint names.
use Rattle.std.specs.Prelude.{ℕ, ◌&&◌, nat_le, if◌then◌else◌, List, Option, None, Some, option_and_then}
use Rattle.feature_lines.specs.Dates.{expiry_of}
use Rattle.lic_text.specs.Number.{number_of}
use Rattle.lic_types.specs.declared.day.Day.{Day}
use Rattle.licence_tool.specs.Command.{is_plain_word}
use Rattle.lint_advice.specs.declared.advice.Horizon.{Horizon}
use Rattle.licence_lint.specs.Days.{last_day}
use Rattle.licence_lint.specs.declared.names.LintNames.{LintNames}

-- the names of the two files, and by when a pool expires that is told of
pub record LintWords : Type 0 where
  pub licence : List ℕ
  pub options : List ℕ
  pub horizon : Option Horizon

abbrev pub lint_named : LintNames → LintWords
lint_named names = record { licence = names.licence.now; options = names.options.now; horizon = names.horizon }

-- a number of days, up to 65,535
abbrev pub few_days : ℕ → Option ℕ
few_days n = if nat_le n 65535 then Some n else None

abbrev pub days_of : List ℕ → Option ℕ
days_of word = option_and_then few_days (number_of word)

-- the horizon of a number of days and a day, each written as a word; the day as the expiry of a licence line that ends
abbrev pub horizon_by : ℕ → Day → Horizon
horizon_by days on = record { on = on; days = days }

abbrev pub horizon_of : List ℕ → List ℕ → Option Horizon
horizon_of within on = option_and_then (λ days. option_and_then (λ day. Some (horizon_by days day)) (last_day (expiry_of on))) (days_of within)

-- the lint of two words that may name files
abbrev pub plain_lint : List ℕ → List ℕ → Option Horizon → Option LintWords
plain_lint licence options horizon =
    if is_plain_word licence && is_plain_word options then Some (record { licence = licence; options = options; horizon = horizon }) else None

-- the same with the values of `--expires-within` and `--on`, which stand both or neither
abbrev pub lint_with : List ℕ → List ℕ → Option (List ℕ) → Option (List ℕ) → Option LintWords
lint_with licence options None None = plain_lint licence options None
lint_with licence options None (Some on) = None
lint_with licence options (Some within) None = None
lint_with licence options (Some within) (Some on) = option_and_then (λ horizon. plain_lint licence options (Some horizon)) (horizon_of within on)

-- the same where both files are named
abbrev pub lint_by : Option (List ℕ) → Option (List ℕ) → Option (List ℕ) → Option (List ℕ) → Option LintWords
lint_by licence options within on = option_and_then (λ l. option_and_then (λ o. lint_with l o within on) options) licence
