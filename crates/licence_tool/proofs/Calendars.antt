-- The dates of days from 1970 on.
use Rattle.std.proofs.Common.{◌≡◌, ℕ, ℤ, pos, negsuc, ◌<ℤ◌, ◌-ℤ◌, inl, refl, arith, rules}
use Rattle.std.proofs.lemmas.Int.{ints}
use Rattle.jiff_core.specs.Calendar.{day_count, days_from_civil}
use Rattle.jiff_core.specs.Date.{epoch_day}
use Rattle.jiff_core.specs.declared.civil.date.Date.{Date}
use Rattle.jiff_core.proofs.DateLemmas.{epoch_day-lt}
use Rattle.jiff_core.proofs.SignedLemmas.{signed_arith}

first_date : Date
first_date = record { year = pos 1970; month = 1; day = 1; year_in = search rules; month_in = search rules; day_in = search rules }

none_left : (n : ℕ) → pos n -ℤ pos n ≡ pos 0
none_left n = omega (arith, ints)

first_number : days_from_civil (pos 1970) 1 1 ≡ pos 0
unfolding days_from_civil
first_number = none_left (day_count (pos 1970) 1 1)

year_at : (d : Date) (number : ℕ) (year : ℤ) → d.year ≡ year → epoch_day d ≡ pos number → (y : ℕ) × (d.year ≡ pos y)
unfolding first_date
year_at d number (pos y) is day = (y, is)
year_at d number (negsuc k) is day =
    let early : d.year <ℤ pos 1970 = rw is (search rules) in
    let below = epoch_day-lt d first_date (inl early) in
    let first : epoch_day first_date ≡ pos 0 = first_number in
    absurd (omega (arith, signed_arith, below, first, day))

-- a date of a day from 1970-01-01 on is of a year from 0 on
pub year_from : (d : Date) (number : ℕ) → epoch_day d ≡ pos number → (y : ℕ) × (d.year ≡ pos y)
year_from d number day = year_at d number d.year refl day
