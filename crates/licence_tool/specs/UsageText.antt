use Rattle.std.specs.Prelude.{◌≡◌, ◌==◌, ℕ, ◌+◌, ◌<◌, if◌then◌else◌, pos, List, [], ◌∷◌, ◌++◌, Option, None, Some, codes, decimal, map}
use Rattle.std.specs.List.{AllByRecursion, flat_map}
use Rattle.feature_lines.specs.declared.pool.Pool.{Pool}
use Rattle.jiff_core.specs.Calendar.{IsCivilDate, days_from_civil}
use Rattle.lic_types.specs.Days.{day_text}
use Rattle.lic_types.specs.declared.day.Day.{Day}
use Rattle.log_audit.specs.Audit.{IsRunLog}
use Rattle.log_audit.specs.Usage.{usage}
use Rattle.log_audit.specs.declared.day_sum.DaySum.{DaySum}
use Rattle.log_audit.specs.declared.log.Numbered.{Numbered}
use Rattle.options_machine.specs.Rules.{Rules}
use Rattle.licence_tool.specs.declared.dates.DatedSum.{DatedSum}

-- the calendar has this date, and it is the day of this number from 1970-01-01
pub record IsDateOf (number : ℕ) (date : Day) : Type 0 where
  pub civil : IsCivilDate (pos date.year) date.month date.day
  pub counted : days_from_civil (pos date.year) date.month date.day ≡ pos number

-- the date of a day, which one behind 31-dec-9999 doesn't have
abbrev pub IsDatedAt : ℕ → Option Day → Type 0
IsDatedAt number None = 2932896 < number
IsDatedAt number (Some date) = IsDateOf number date

abbrev pub IsDated : DatedSum → Type 0
IsDated d = IsDatedAt d.sum.day d.date

abbrev pub sum_of : DatedSum → DaySum
sum_of d = d.sum

-- these are the days, each with its date
pub record AreDated (days : List DaySum) (dated : List DatedSum) : Type 0 where
  pub sums : map sum_of dated ≡ days
  pub dates : AllByRecursion IsDated dated

abbrev pub date_text : Option Day → List ℕ
date_text None = codes "after-31-dec-9999"
date_text (Some date) = day_text date

-- the sums of a day
abbrev pub day_line : DatedSum → List ℕ
day_line d =
    codes "DAY " ++ date_text d.date ++ codes " PEAK " ++ decimal d.sum.peak ++ codes " SECONDS " ++ decimal d.sum.seconds
    ++ codes " DENIED " ++ decimal d.sum.denied ++ codes " NOSEAT " ++ decimal d.sum.noseat ++ codes " GRANTS " ++ decimal d.sum.grants ++ 10 ∷ []

-- the same, where the day is one of the pool of this number
abbrev pub own_line : ℕ → DatedSum → List ℕ
own_line pool d = if d.sum.pool == pool then day_line d else []

-- the pool of this number
abbrev pub pool_line : ℕ → Pool → List ℕ
pool_line at pool = codes "USAGE " ++ decimal at ++ 32 ∷ pool.name ++ 32 ∷ pool.version_text ++ 10 ∷ []

-- pools, of which the first has this number, each followed by its days
abbrev pub usage_lines : ℕ → List Pool → List DatedSum → List ℕ
usage_lines at [] dated = []
usage_lines at (pool ∷ pools) dated = pool_line at pool ++ flat_map (own_line at) dated ++ usage_lines (at + 1) pools dated

-- this text tells of pools and their days
pub record IsUsageText (pools : List Pool) (days : List DaySum) (text : List ℕ) : Type 0 where
  pub dated : List DatedSum
  pub are : AreDated days dated
  pub is : text ≡ usage_lines 0 pools dated

-- the log is a run of these pools with these rule sets, and this text tells of its days
pub record IsUsage (pools : List Pool) (rules : List (List Rules)) (log : List Numbered) (text : List ℕ) : Type 0 where
  pub run : IsRunLog rules log
  pub told : IsUsageText pools (usage rules log) text
