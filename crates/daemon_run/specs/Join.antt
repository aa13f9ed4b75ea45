-- How the sessions of the parties stand in the histories of the desks.
use Rattle.std.specs.Prelude.{◌≡◌, ℕ, ◌<◌, ◌≤◌, ◌%◌, ◌^◌, false, flat_map, List, [], length, get_or, Vec, vec_len}
use Rattle.std.specs.List.{AllByRecursion, list_any}
use Rattle.counter.specs.Account.{Asking, grants}
use Rattle.desk_book.specs.declared.end.DeskLog.{DeskLog}
use Rattle.door_worker.specs.Visits.{AreSessions, Visit, acts_in, rang}
use Rattle.feature_desk.specs.Closings.{HasLog}
use Rattle.feature_desk.specs.Sitters.{DeskView, Sitter, account_of}
use Rattle.feature_desk.specs.Sittings.{AreLow}
use Rattle.feature_desk.specs.declared.closing.DeskTally.{DeskTally}
use Rattle.licence_office.specs.declared.closing.OfficeEnd.{OfficeEnd}
use Rattle.office_view.specs.View.{View}
use Rattle.options_machine.specs.Own.{own}
use Rattle.options_machine.specs.Run.{IsRun}
use Rattle.options_machine.specs.declared.reply.Entry.{Entry}
use Rattle.session.specs.Acts.{askings, entries}
use Rattle.session.specs.Pass.{Stands}
use Rattle.session.specs.Session.{setup_of}

-- the history of desk j is that of these sessions: one list of them for each party
pub record IsHistory (desk : DeskView) (j : ℕ) (sessions : List (List Visit)) (history : List Entry) : Type 0 where
  -- it is a run of the desk's rule sets
  pub run : IsRun desk.lock.law.sets history
  -- the part of party p is the entries of its sessions, in their order
  pub own_is : (p : ℕ) → p < length sessions → own history p ≡ entries j (acts_in (get_or sessions p []))
  -- each of these entries stands in it at its place, and its moment is that to which settling brings the state before it from the moment that its session's clock gave
  pub stands : (p : ℕ) → p < length sessions → AllByRecursion (Stands desk.lock.law.sets p history) (askings j (acts_in (get_or sessions p [])))
  -- each seat that they brought is one of the desk's
  pub seats_are : (p : ℕ) → p < length sessions → AreLow desk.seats.net.width (flat_map (λ (a : Asking). a.seats) (askings j (acts_in (get_or sessions p []))))
  -- and it has no other entries
  pub others : (p : ℕ) → length sessions ≤ p → own history p ≡ []

-- the numbers of a history: its calls, the replies that brought a seat, and as many uses of the seats
pub record IsTally (tally : DeskTally) (history : List Entry) : Type 0 where
  pub calls_is : tally.calls ≡ length history % 2 ^ 64
  pub grants_is : tally.grants ≡ grants history % 2 ^ 64
  pub uses_are : tally.uses ≡ tally.grants

-- each desk has as many rule sets as the office says
abbrev pub HasSets : View DeskView → Type 0
HasSets office = (j : ℕ) (d : DeskView) → j < length office.pools → length (get_or office.desks j d).lock.law.sets ≡ office.sets

-- what a run tells: one list of sessions for each party, and one history for each desk, of which the tallies are the numbers and the logs the first entries
pub record Ran {Z : Type 0} (office : View DeskView) (passes : List (Vec Sitter Z)) (kept : List (List Visit) → Type 0) (rings0 rings1 : ℕ) (end : OfficeEnd) : Type 0 where
  pub sessions : List (List Visit)
  pub histories : List (List Entry)
  pub parties_are : length sessions ≡ length passes
  -- each of them is a session of its party
  pub served : (p : ℕ) (v : Vec Sitter Z) → p < length sessions → AreSessions (setup_of account_of office (get_or passes p v).items) (get_or sessions p [])
  -- the site keeps their talks and moments
  pub told : kept sessions
  pub desks_are : length histories ≡ length office.desks
  pub joined : (j : ℕ) (d : DeskView) → j < length office.desks → IsHistory (get_or office.desks j d) j sessions (get_or histories j [])
  pub tallies_are : vec_len end.tallies ≡ length office.desks
  pub tallied : (j : ℕ) (t : DeskTally) → j < length office.desks → IsTally (get_or end.tallies.items j t) (get_or histories j [])
  pub logs_are : vec_len end.logs ≡ length office.desks
  pub logged : (j : ℕ) (l : DeskLog) → j < length office.desks → HasLog (get_or end.logs.items j l) (get_or histories j [])
  -- the bell was rung only where one of these sessions ended at a SHUTDOWN
  pub rung : list_any rang sessions ≡ false → rings1 ≡ rings0
