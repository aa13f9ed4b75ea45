use Rattle.std.specs.Prelude.{◌≡◌, ℕ, ◌*◌, ◌<◌, ◌≤◌, Bool, true, false, ◌==◌, List, [], ◌∷◌, ◌++◌, get_or, length, map, Option, None, Some}
use Rattle.std.specs.List.{AllByRecursion, list_any}
use Rattle.lic_types.specs.declared.limits.TheConstants.{LICENCE_LIMIT, PARTY_LIMIT}
use Rattle.feature_lines.specs.declared.pool.Pool.{Pool}
use Rattle.options_machine.specs.Law.{AreSets}
use Rattle.options_machine.specs.Rules.{Rules}
use Rattle.options_machine.specs.Run.{after}
use Rattle.options_machine.specs.State.{opening, set_at}
use Rattle.options_machine.specs.declared.reply.Entry.{Entry}
use Rattle.options_text.specs.Options.{OptionsFile}
use Rattle.policy.specs.Pools.{rules_of}
use Rattle.log_audit.specs.Audit.{IsRunOf, entry_of, of_pool}
use Rattle.log_audit.specs.Running.{Running, no_entries}
use Rattle.log_audit.specs.Times.{day_of}
use Rattle.log_audit.specs.Usage.{day_sum, days_of}
use Rattle.log_audit.specs.declared.day_sum.DaySum.{DaySum}
use Rattle.log_audit.specs.declared.desk.Desk.{Desk}
use Rattle.log_audit.specs.declared.log.Numbered.{Numbered}

-- whether some entry is of this day
abbrev pub has_entry : ℕ → List Entry → Bool
has_entry day es = list_any (λ (e : Entry). day_of e.moment == day) es

-- there is nothing to tell of a day
pub record IsIdle (sets : List Rules) (pool : ℕ) (es : List Entry) (day : ℕ) : Type 0 where
  pub without : has_entry day es ≡ false
  pub empty : day_sum sets pool es day ≡ no_entries pool day

-- these are the sums of the days that are over, and this the sum of the day of the last entry
pub record IsDay (sets : List Rules) (pool : ℕ) (es : List Entry) (over : List DaySum) (sum : DaySum) : Type 0 where
  pub before : List ℕ
  pub days : days_of es ≡ before ++ sum.day ∷ []
  pub earlier : AllByRecursion (λ (day : ℕ). day < sum.day) before
  pub sums : over ≡ map (day_sum sets pool es) before
  pub last : sum ≡ day_sum sets pool es sum.day
  pub some : has_entry sum.day es ≡ true
  pub now : sum.day ≡ day_of (after sets es).now
  pub later : (day : ℕ) → sum.day < day → IsIdle sets pool es day
  pub seconds : sum.seconds ≤ LICENCE_LIMIT * (after sets es).now

abbrev pub AreSummedAt : List Rules → ℕ → List Entry → List DaySum → Option DaySum → Type 0
AreSummedAt sets pool es over None = (es ≡ []) × (over ≡ [])
AreSummedAt sets pool es over (Some sum) = IsDay sets pool es over sum

-- the days of these entries are summed
abbrev pub AreSummed : List Rules → ℕ → List Entry → Running → Type 0
AreSummed sets pool es r = AreSummedAt sets pool es r.over r.last

-- the desk of the pool of this number stands where these entries, which are a run, leave it
pub record StandsAt (sets : List Rules) (pool : ℕ) (xs : List Numbered) (d : Desk) : Type 0 where
  pub rules : d.book.sets ≡ sets
  pub parties : d.book.parties ≡ PARTY_LIMIT
  pub reached : d.book.state ≡ after sets (map entry_of xs)
  pub counted : d.entries ≡ length xs
  pub run : IsRunOf sets xs
  pub summed : AreSummed sets pool (map entry_of xs) d.days
  pub lawful : AreSets sets (set_at sets 0).count
  pub few : (set_at sets 0).count ≤ LICENCE_LIMIT

-- each desk stands where its pool's entries leave it
pub record StandAll (pools : List (List Rules)) (xs : List Numbered) (desks : List Desk) : Type 0 where
  pub many : length desks ≡ length pools
  pub each : (pool : ℕ) (d : Desk) → pool < length desks → StandsAt (get_or pools pool []) pool (of_pool pool xs) (get_or desks pool d)

abbrev pub sets_at : Desk → List Rules
sets_at d = d.book.sets

-- a desk's rule sets are those of one pool
abbrev pub HasLawfulSets : Desk → Type 0
HasLawfulSets d = AreSets d.book.sets (set_at d.book.sets 0).count

-- the desk of a pool before the first entry, with one rule set for each options file
abbrev pub desk_of : List OptionsFile → Pool → Desk
desk_of files pool = record { book = record { sets = map (rules_of pool) files; parties = PARTY_LIMIT; state = opening }; entries = 0; days = record { over = []; last = None } }
