use Rattle.std.specs.Prelude.{ℕ, ◌-◌, ◌*◌, ◌/◌, min}
use Rattle.log_audit.specs.declared.day_sum.Stretch.{Stretch}

-- the day of a moment, from 1970-01-01; the day behind 31-dec-9999 stands for all that follow
abbrev pub day_of : ℕ → ℕ
day_of moment = min (moment / 86400) 2932897

-- for how long seats are held, in seconds of one seat
abbrev pub seat_seconds : Stretch → ℕ
seat_seconds x = x.held * (x.until - x.from)
