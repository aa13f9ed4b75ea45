use Rattle.std.specs.Prelude.{◌≡◌, ℕ, ◌≤◌, Bool, true, false, ◌&&◌, cond, nat_le, pos, refl}
use Rattle.std.proofs.Common.{arith}
use Rattle.std.proofs.lemmas.Bool.{leb-true}
use Rattle.jiff.specs.Words.{days_in_month}

-- what holds of the parts of a date in the years from 0 to 9999
pub record InCalendar (year month day : ℕ) : Type 0 where
  pub first_month : 1 ≤ month
  pub last_month : month ≤ 12
  pub first_day : 1 ≤ day
  pub last_day : day ≤ 31
  pub last_year : year ≤ 9999

at_most_31 : (n : ℕ) (a b c : Bool) → n ≤ cond a (cond b 29 28) (cond c 30 31) → n ≤ 31
at_most_31 n true true c h = omega arith
at_most_31 n true false c h = omega arith
at_most_31 n false b true h = omega arith
at_most_31 n false b false h = h

pub each_true : (a b c d e : Bool) → (a && b && c && d && e) ≡ true → (a ≡ true) × (b ≡ true) × (c ≡ true) × (d ≡ true) × (e ≡ true)
each_true true true true true true h = (refl, refl, refl, refl, refl)
each_true true true true true false h = absurd cc
each_true true true true false e h = absurd cc
each_true true true false d e h = absurd cc
each_true true false c d e h = absurd cc
each_true false b c d e h = absurd cc

pub within : (year month day : ℕ) → (nat_le year 9999 && nat_le 1 month && nat_le month 12 && nat_le 1 day && nat_le day (days_in_month (pos year) month)) ≡ true → InCalendar year month day
within year month day civil =
    let p = each_true (nat_le year 9999) (nat_le 1 month) (nat_le month 12) (nat_le 1 day) (nat_le day (days_in_month (pos year) month)) civil in
    record {
      first_month = leb-true 1 month p.1;
      last_month = leb-true month 12 p.2;
      first_day = leb-true 1 day p.3;
      last_day = at_most_31 day _ _ _ (leb-true day (days_in_month (pos year) month) p.4);
      last_year = leb-true year 9999 p.0;
    }
