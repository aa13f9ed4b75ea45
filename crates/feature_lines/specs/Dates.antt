use Rattle.std.specs.Prelude.{◌≡◌, ℕ, ◌+◌, Bool, true, false, ◌&&◌, nat_lt, nat_le, ◌==◌, pos, if◌then◌else◌, List, [], ◌∷◌, length, take, drop, codes, Option, None, Some, refl}
use Rattle.std.specs.List.{list_all, position_from}
use Rattle.std.specs.Option.{option_map}
use Rattle.std.specs.Str.{str_eq_ignore_ascii_case}
use Rattle.jiff.specs.Words.{days_in_month}
use Rattle.jiff_core.specs.Calendar.{days_from_civil}
use Rattle.lic_text.specs.Number.{number_of}
use Rattle.lic_types.specs.declared.day.Day.{Day}
use Rattle.lic_types.specs.declared.day.Expiry.{Expiry}
use Rattle.lic_types.specs.declared.day.Expiry.TheVariants.{Never, On}
use Rattle.feature_lines.specs.Civil.{within}

-- what stands before and behind the first byte at this place
abbrev pub cut_at : List ℕ → Option ℕ → Option (List ℕ × List ℕ)
cut_at word None = None
cut_at word (Some at) = Some (take at word, drop (at + 1) word)

-- what stands before the first dash, and what stands behind it
abbrev pub cut_at_dash : List ℕ → Option (List ℕ × List ℕ)
cut_at_dash word = cut_at word (position_from (λ b. b == 45) 0 word)

-- the number that one or two digits write
abbrev pub day_of : List ℕ → Option ℕ
day_of word = if nat_le (length word) 2 then number_of word else None

-- the names of the months
abbrev pub month_names : List (List ℕ)
month_names = codes "jan" ∷ codes "feb" ∷ codes "mar" ∷ codes "apr" ∷ codes "may" ∷ codes "jun" ∷ codes "jul" ∷ codes "aug" ∷ codes "sep" ∷ codes "oct" ∷ codes "nov" ∷ codes "dec" ∷ []

-- the month of this name in any case, from 1
abbrev pub month_of : List ℕ → Option ℕ
month_of word = option_map (λ at. at + 1) (position_from (str_eq_ignore_ascii_case word) 0 month_names)

-- one to four zeros
abbrev pub is_no_year : List ℕ → Bool
is_no_year word = nat_lt 0 (length word) && nat_le (length word) 4 && list_all (λ b. b == 48) word

-- the number that four digits write
abbrev pub year_of : List ℕ → Option ℕ
year_of word = if length word == 4 then number_of word else None

-- whether the calendar has this date, in the years from 0 to 9999
abbrev pub is_civil : ℕ → ℕ → ℕ → Bool
is_civil year month day = nat_le year 9999 && nat_le 1 month && nat_le month 12 && nat_le 1 day && nat_le day (days_in_month (pos year) month)

-- what a true test lets one make
abbrev pub where_true : {X : Type 0} → (b : Bool) → (b ≡ true → X) → Option X
where_true true makes = Some (makes refl)
where_true false makes = None

-- the day of a civil date, if the calendar has it; its number is that of the calendar, 0 for 1970-01-01
abbrev pub day_on : ℕ → ℕ → ℕ → Option Day
day_on year month day = where_true (is_civil year month day) (λ civil. record {
  year = year;
  month = month;
  day = day;
  number = days_from_civil (pos year) month day;
  first_month = (within year month day civil).first_month;
  last_month = (within year month day civil).last_month;
  first_day = (within year month day civil).first_day;
  last_day = (within year month day civil).last_day;
  last_year = (within year month day civil).last_year;
})

-- to the end of the day of this date, if the calendar has it
abbrev pub on_date : Option ℕ → ℕ → ℕ → Option Expiry
on_date None month day = None
on_date (Some year) month day = option_map On (day_on year month day)

-- the expiry of a day, a month and a year's word: zeros in the place of the year mean never, with a day from 1 to 31
abbrev pub expiry_on : ℕ → ℕ → List ℕ → Option Expiry
expiry_on day month year = if is_no_year year then (if nat_le 1 day && nat_le day 31 then Some Never else None) else on_date (year_of year) month day

-- the same, of words
abbrev pub expiry_in : Option ℕ → Option ℕ → List ℕ → Option Expiry
expiry_in None month year = None
expiry_in (Some day) None year = None
expiry_in (Some day) (Some month) year = expiry_on day month year

-- the expiry of a day's word, and of a month's word with a year's word
abbrev pub expiry_from : List ℕ → Option (List ℕ × List ℕ) → Option Expiry
expiry_from day None = None
expiry_from day (Some rest) = expiry_in (day_of day) (month_of rest.0) rest.1

abbrev pub expiry_at_dash : Option (List ℕ × List ℕ) → Option Expiry
expiry_at_dash None = None
expiry_at_dash (Some parts) = expiry_from parts.0 (cut_at_dash parts.1)

-- the expiry that a word names: `permanent`, or `d-mmm-yyyy`
abbrev pub expiry_of : List ℕ → Option Expiry
expiry_of word = if str_eq_ignore_ascii_case word (codes "permanent") then Some Never else expiry_at_dash (cut_at_dash word)
