use Rattle.std.specs.Prelude.{ℕ, ◌+◌, max, Bool, not, ◌==◌, List, [], ◌∷◌, ◌++◌, count_by, filter, fold, length, map, sum_by}
use Rattle.options_machine.specs.Rules.{Rules}
use Rattle.options_machine.specs.Run.{after_entry}
use Rattle.options_machine.specs.State.{State, opening}
use Rattle.options_machine.specs.declared.reply.Entry.{Entry}
use Rattle.log_audit.specs.Audit.{entry_of, of_pool}
use Rattle.log_audit.specs.Replies.{is_denied, is_grant, is_noseat}
use Rattle.log_audit.specs.Times.{day_of, seat_seconds}
use Rattle.log_audit.specs.declared.day_sum.DaySum.{DaySum}
use Rattle.log_audit.specs.declared.day_sum.Stretch.{Stretch}
use Rattle.log_audit.specs.declared.log.Numbered.{Numbered}

-- an entry, and how many seats are held after it
pub record HeldAfter : Type 0 where
  pub entry : Entry
  pub held : ℕ

-- the entries of a pool from a state on, each with how many seats are held after it
abbrev pub held_from : List Rules → State → List Entry → List HeldAfter
held_from sets s [] = []
held_from sets s (e ∷ es) = record { entry = e; held = length (after_entry sets s e).holders } ∷ held_from sets (after_entry sets s e) es

-- the stretches of a pool from a state on: up to each entry the seats of the state before it are held, from the moment of that state. In a run this is the moment of the entry before, and before the first one nobody holds a seat
abbrev pub stretches_from : List Rules → State → List Entry → List Stretch
stretches_from sets s [] = []
stretches_from sets s (e ∷ es) = record { from = s.now; until = e.moment; held = length s.holders } ∷ stretches_from sets (after_entry sets s e) es

-- whether an entry is of this day
abbrev pub is_on : ℕ → HeldAfter → Bool
is_on day x = day_of x.entry.moment == day

-- whether a stretch begins on this day, for which it counts wholly
abbrev pub begins_on : ℕ → Stretch → Bool
begins_on day x = day_of x.from == day

-- what entries and stretches come to
abbrev pub sum_of : ℕ → ℕ → List HeldAfter → List Stretch → DaySum
sum_of pool day entries stretches = record {
  pool = pool;
  day = day;
  peak = fold (λ (most : ℕ) (x : HeldAfter). max most x.held) 0 entries;
  seconds = sum_by seat_seconds stretches;
  denied = count_by (λ (x : HeldAfter). is_denied x.entry.reply) entries;
  noseat = count_by (λ (x : HeldAfter). is_noseat x.entry.reply) entries;
  grants = count_by (λ (x : HeldAfter). is_grant x.entry.reply) entries;
}

-- the sums of a day, of all entries of the pool of this number: those of the day are taken, and the stretches that begin on it
abbrev pub day_sum : List Rules → ℕ → List Entry → ℕ → DaySum
day_sum sets pool es day = sum_of pool day (filter (is_on day) (held_from sets opening es)) (filter (begins_on day) (stretches_from sets opening es))

-- the days that have entries, each once, in the order in which they come
abbrev pub days_of : List Entry → List ℕ
days_of [] = []
days_of (e ∷ es) = day_of e.moment ∷ filter (λ (day : ℕ). not (day == day_of e.moment)) (days_of es)

-- the days of the entries of the pool of this number, each with its sums
abbrev pub pool_usage : List Rules → ℕ → List Entry → List DaySum
pool_usage sets pool es = map (day_sum sets pool es) (days_of es)

-- the days of the entries of pools with these rule sets, pool by pool, of which the first has this number
abbrev pub usage_from : ℕ → List (List Rules) → List Numbered → List DaySum
usage_from pool [] xs = []
usage_from pool (sets ∷ others) xs = pool_usage sets pool (map entry_of (of_pool pool xs)) ++ usage_from (pool + 1) others xs

-- the days of a log, pool by pool, each with its sums
abbrev pub usage : List (List Rules) → List Numbered → List DaySum
usage pools xs = usage_from 0 pools xs
