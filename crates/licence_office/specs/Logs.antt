-- The logs of an office's desks, as whoever takes entries out of them sees them.
use Rattle.std.specs.Prelude.{◌≡◌, ℕ, ◌<◌, List, [], get_or, length}
use Rattle.counter.specs.Account.{Extends}
use Rattle.feature_desk.specs.Closings.{DeskKeeperView, IsKeeperOf}
use Rattle.feature_desk.specs.Sitters.{DeskView}
use Rattle.options_machine.specs.declared.reply.Entry.{Entry}
use Rattle.licence_office.specs.Offices.{OfficeSeen}

-- the logs: the keeper of each desk's log as it was before anything was taken, what was taken at each desk, and the number of the office's parties
pub record LogsSeen : Type 0 where
  pub keepers : List DeskKeeperView
  pub taken : List (List Entry)
  pub parties : ℕ

-- a keeper as it was before anything was taken
abbrev pub untouched_keeper : DeskKeeperView → DeskKeeperView
untouched_keeper k = record { book = record { queue = k.book.queue; taken = []; room = k.book.room }; room = k.room; seats = k.seats }

-- the logs are those of this office: they have the keeper of each desk's log, in order, and are for its parties
pub record AreLogsOf (l : LogsSeen) (o : OfficeSeen) : Type 0 where
  pub parties : l.parties ≡ o.parties
  pub many : length l.keepers ≡ length o.view.desks
  pub keepers : (j : ℕ) (k : DeskKeeperView) (d : DeskView) → j < length o.view.desks → IsKeeperOf (get_or l.keepers j k) (get_or o.view.desks j d)

-- at each desk what was taken before was kept, and maybe more was taken
pub record HaveGrown (old new : List (List Entry)) : Type 0 where
  pub many : length new ≡ length old
  pub each : (j : ℕ) → j < length old → Extends (get_or old j []) (get_or new j [])
