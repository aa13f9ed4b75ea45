use Rattle.std.specs.Prelude.{ℕ, ◌+◌, ◌<◌, ◌^◌, ◌==◌, cond, max, if◌then◌else◌, List, [], ◌∷◌, ◌++◌, Option, None, Some}
use Rattle.options_machine.specs.declared.reply.Reply.{Reply}
use Rattle.log_audit.specs.Replies.{is_denied, is_grant, is_noseat}
use Rattle.log_audit.specs.Times.{day_of, seat_seconds}
use Rattle.log_audit.specs.declared.day_sum.DaySum.{DaySum}
use Rattle.log_audit.specs.declared.day_sum.Stretch.{Stretch}

-- what is seen of the days of a pool while its entries come: the sums of the days that are over, and of that of the last entry
pub record Running : Type 0 where
  pub over : List DaySum
  pub last : Option DaySum

-- the sums of a day before its first entry
abbrev pub no_entries : ℕ → ℕ → DaySum
no_entries pool day = record { pool = pool; day = day; peak = 0; seconds = 0; denied = 0; noseat = 0; grants = 0 }

-- with a stretch that begins on the day
abbrev pub with_stretch : DaySum → Stretch → DaySum
with_stretch sum x = record sum { seconds = sum.seconds + seat_seconds x }

-- with an entry of the day, after which so many seats are held
abbrev pub with_entry : DaySum → ℕ → Reply → DaySum
with_entry sum held said = record sum {
  peak = max sum.peak held;
  denied = sum.denied + cond (is_denied said) 1 0;
  noseat = sum.noseat + cond (is_noseat said) 1 0;
  grants = sum.grants + cond (is_grant said) 1 0;
}

-- one entry more can be counted
pub record HasRoom (sum : DaySum) : Type 0 where
  pub denied : sum.denied + 1 < 2 ^ 64
  pub noseat : sum.noseat + 1 < 2 ^ 64
  pub grants : sum.grants + 1 < 2 ^ 64

-- the sums so far of the day of the entry that ends a stretch
abbrev pub sum_at : Option DaySum → ℕ → Stretch → DaySum
sum_at None pool x = no_entries pool (day_of x.until)
sum_at (Some sum) pool x = if sum.day == day_of x.until then with_stretch sum x else no_entries pool (day_of x.until)

-- the days that are over then
abbrev pub over_at : List DaySum → Option DaySum → Stretch → List DaySum
over_at over None x = over
over_at over (Some sum) x = if sum.day == day_of x.until then over else over ++ with_stretch sum x ∷ []

-- the days with the pool's next entry, which ends this stretch, and after which so many seats are held
abbrev pub days_with_entry : Running → ℕ → Stretch → ℕ → Reply → Running
days_with_entry r pool x held said = record { over = over_at r.over r.last x; last = Some (with_entry (sum_at r.last pool x) held said) }
