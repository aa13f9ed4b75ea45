use Rattle.std.proofs.Common.{◌≡◌, ℕ, ◌≤◌, Bool, true, false, ◌&&◌, ℤ, pos, Some, refl, ap, ◌∙◌, arith, subst, nat_le}
use Rattle.std.proofs.lemmas.Int.{ints}
use Rattle.jiff_core.specs.declared.civil.date.Date.{Date}
use Rattle.jiff_core.specs.Date.{epoch_day}
use Rattle.std.proofs.Props.{props}
use Rattle.std.proofs.lemmas.Bool.{leb-true, le-leb}
use mathlib.Core.HLevel.{is_prop→PathP}
use Rattle.jiff.specs.Words.{IsDate, days_in_month}
use Rattle.jiff_core.specs.Calendar.{days_from_civil}
use Rattle.lic_types.specs.declared.day.Day.{Day}
use Rattle.feature_lines.specs.Civil.{each_true}
use Rattle.feature_lines.specs.Dates.{day_on, is_civil, where_true}

-- days of equal parts are equal
pub same_day : (a b : Day) → a.year ≡ b.year → a.month ≡ b.month → a.day ≡ b.day → a.number ≡ b.number → a ≡ b
same_day a b y m d n = λ i. record {
  year = y i;
  month = m i;
  day = d i;
  number = n i;
  first_month = is_prop→PathP (λ j. 1 ≤ m j) (λ j. hlevel props) a.first_month b.first_month i;
  last_month = is_prop→PathP (λ j. m j ≤ 12) (λ j. hlevel props) a.last_month b.last_month i;
  first_day = is_prop→PathP (λ j. 1 ≤ d j) (λ j. hlevel props) a.first_day b.first_day i;
  last_day = is_prop→PathP (λ j. d j ≤ 31) (λ j. hlevel props) a.last_day b.last_day i;
  last_year = is_prop→PathP (λ j. y j ≤ 9999) (λ j. hlevel props) a.last_year b.last_year i;
}

-- what a true test lets one make, up to the proof that it is true
pub made : {X : Type 0} (x : X) (b : Bool) (makes : b ≡ true → X) → b ≡ true → ((h : b ≡ true) → x ≡ makes h) → Some x ≡ where_true b makes
made x true makes h same = ap Some (same refl)
made x false makes h same = absurd cc

-- a day that has the parts and the number of a civil date is the day of that date
pub is_day_on : (a : Day) (year month day : ℕ) → is_civil year month day ≡ true → a.year ≡ year → a.month ≡ month → a.day ≡ day → a.number ≡ days_from_civil (pos year) month day → Some a ≡ day_on year month day
is_day_on a year month day civil y m d n = made a (is_civil year month day) _ civil (λ h. same_day a _ y m d n)

five : (a b c d e : Bool) → a ≡ true → b ≡ true → c ≡ true → d ≡ true → e ≡ true → (a && b && c && d && e) ≡ true
five a b c d e p q r s t = rw (p, q, r, s, t) refl

-- the test of a date is the calendar's own
pub civil_is_date : (year month day : ℕ) → is_civil year month day ≡ true → IsDate (pos year) (pos month) (pos day)
civil_is_date year month day civil =
    let p = each_true (nat_le year 9999) (nat_le 1 month) (nat_le month 12) (nat_le 1 day) (nat_le day (days_in_month (pos year) month)) civil in
    let y = leb-true year 9999 p.0 in
    let m = leb-true 1 month p.1 in
    let n = leb-true month 12 p.2 in
    let d = leb-true 1 day p.3 in
    let e = leb-true day (days_in_month (pos year) month) p.4 in
    ((omega (arith, ints), omega (arith, ints)), (omega (arith, ints), omega (arith, ints)), (omega (arith, ints), omega (arith, ints)))

pub date_is_civil : (year month day : ℕ) → IsDate (pos year) (pos month) (pos day) → is_civil year month day ≡ true
date_is_civil year month day date =
    let y = date.0.1 in
    let m = date.1.0 in
    let n = date.1.1 in
    let d = date.2.0 in
    let e = date.2.1 in
    five _ _ _ _ _ (le-leb year 9999 (omega (arith, ints))) (le-leb 1 month (omega (arith, ints))) (le-leb month 12 (omega (arith, ints))) (le-leb 1 day (omega (arith, ints))) (le-leb day (days_in_month (pos year) month) (omega (arith, ints)))

-- the same, of signed numbers that are these
pub civil_from : (year month day : ℕ) (y m d : ℤ) → y ≡ pos year → m ≡ pos month → d ≡ pos day → IsDate y m d → is_civil year month day ≡ true
civil_from year month day y m d p q r date =
    date_is_civil year month day
    (subst (λ (a : ℤ). IsDate a (pos month) (pos day)) p (subst (λ (b : ℤ). IsDate y b (pos day)) q (subst (λ (c : ℤ). IsDate y m c) r date)))

-- the number of a date of these parts
pub number_is : (year month day : ℕ) (shown date : Date) (n : ℤ) → n ≡ epoch_day shown → shown ≡ date → date.year ≡ pos year → pos date.month ≡ pos month → pos date.day ≡ pos day → n ≡ days_from_civil (pos year) month day
number_is year month day shown date n is same p q r =
    let m : date.month ≡ month = cc in
    let d : date.day ≡ day = cc in
    is ∙ (ap epoch_day same ∙ (ap (λ (y : ℤ). days_from_civil y date.month date.day) p ∙ (ap (λ (x : ℕ). days_from_civil (pos year) x date.day) m ∙ ap (λ (x : ℕ). days_from_civil (pos year) month x) d)))
