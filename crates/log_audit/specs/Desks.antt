use Rattle.std.specs.Prelude.{◌≡◌, ℕ, ◌+◌, ◌*◌, ◌<◌, ◌≤◌, Bool, true, nat_lt, if◌then◌else◌, List, ◌++◌, length, Option, None, Some, IfSome, option_to_list}
use Rattle.lic_types.specs.declared.limits.TheConstants.{LICENCE_LIMIT, MOMENT_END}
use Rattle.options_machine.specs.Run.{AsksForSet}
use Rattle.options_machine.specs.State.{State}
use Rattle.options_machine.specs.Step.{set_asked, step}
use Rattle.options_machine.specs.declared.reply.Kind.TheVariants.{Look}
use Rattle.options_machine.specs.declared.reply.Reply.{Reply}
use Rattle.options_machine.specs.declared.reply.Request.{Request}
use Rattle.audit_log.specs.declared.reading.Logged.{Logged}
use Rattle.log_audit.specs.Running.{days_with_entry}
use Rattle.log_audit.specs.declared.day_sum.DaySum.{DaySum}
use Rattle.log_audit.specs.declared.day_sum.Stretch.{Stretch}
use Rattle.log_audit.specs.declared.desk.Desk.{Desk}
use Rattle.log_audit.specs.declared.desk.Expected.{Expected}

-- whether there is the rule set that is asked for, of so many
abbrev pub is_there : Option ℕ → ℕ → Bool
is_there None sets = true
is_there (Some set) sets = nat_lt set sets

-- what is asked in the place of a request: a look, where there is no rule set of the number that it asks for
abbrev pub request_asked : ℕ → Request → Request
request_asked sets request = if is_there (set_asked request.kind) sets then request else record request { kind = Look }

-- what a desk answers to a request, and the state then
abbrev pub answer : Desk → Request → ℕ → Reply × State
answer d request moment = step d.book.sets d.book.state request moment

-- this holds in the place of a request
pub record Says (d : Desk) (request : Request) (moment : ℕ) (e : Expected) : Type 0 where
  pub place : e.place ≡ d.entries
  pub used : e.moment ≡ (answer d request moment).1.now
  pub reply : e.reply ≡ (answer d request moment).0

-- an entry is the one that the desk makes next
pub record IsNext (d : Desk) (x : Logged) : Type 0 where
  pub place : x.place ≡ d.entries
  pub later : d.book.state.now ≤ x.entry.moment
  pub fits : AsksForSet d.book.sets x.entry.request
  pub reply : x.entry.reply ≡ (answer d x.entry.request x.entry.moment).0

-- what holds in the place of an entry
abbrev pub IsExpected : Desk → Logged → Expected → Type 0
IsExpected d x e = Says d (request_asked (length d.book.sets) x.entry.request) x.entry.moment e

-- the desk after its book answered a request
abbrev pub moved_by : Desk → Request → ℕ → Desk
moved_by d request moment = record d { book = record d.book { state = (answer d request moment).1 } }

-- the desk after an entry, which isn't counted for its day yet
abbrev pub moved_on : Desk → Logged → Desk
moved_on d x = record d { book = record d.book { state = (answer d x.entry.request x.entry.moment).1 }; entries = d.entries + 1 }

-- the stretch that an entry ends
abbrev pub stretch_at : Desk → Logged → Stretch
stretch_at d x = record { from = d.book.state.now; until = x.entry.moment; held = length d.book.state.holders }

-- the desk after its next entry
abbrev pub with_next : Desk → Logged → Desk
with_next d x = record (moved_on d x) { days = days_with_entry d.days x.pool (stretch_at d x) (length (answer d x.entry.request x.entry.moment).1.holders) x.entry.reply }

-- the days of the entries so far
abbrev pub days_so_far : Desk → List DaySum
days_so_far d = d.days.over ++ option_to_list d.days.last

-- the sums of a day are no more than so many entries up to this moment can make them
pub record IsSmallSum (entries now : ℕ) (sum : DaySum) : Type 0 where
  pub denied : sum.denied ≤ entries
  pub noseat : sum.noseat ≤ entries
  pub grants : sum.grants ≤ entries
  pub seconds : sum.seconds ≤ LICENCE_LIMIT * now

-- the desk's numbers are those of a pool of at most 65,535 licences
pub record IsSmall (d : Desk) : Type 0 where
  pub now : d.book.state.now < MOMENT_END
  pub held : length d.book.state.holders ≤ LICENCE_LIMIT
  pub last : IfSome d.days.last (IsSmallSum d.entries d.book.state.now)
