-- What is known of a desk's history when it was closed with all its passes.
use Rattle.std.specs.Prelude.{◌≡◌, ◌≢◌, ◌≤◌, ℕ, ◌%◌, ◌^◌, false, nat_lt, List, [], length, take, All}
use Rattle.desk_seats.specs.Views.{SeatsView}
use Rattle.options_machine.specs.declared.reply.Entry.{Entry}
use Rattle.options_machine.specs.Own.{holds, own}
use Rattle.options_machine.specs.Run.{IsRun}
use Rattle.counter.specs.Account.{Account, Extends, grants}
use Rattle.desk_book.specs.declared.end.DeskLog.{DeskLog}
use Rattle.desk_book.specs.Ends.{KeeperView}
use Rattle.feature_desk.specs.declared.closing.DeskTally.{DeskTally}
use Rattle.feature_desk.specs.Sitters.{DeskView, IsOf, Sitter}
use Rattle.feature_desk.specs.Sittings.{AreLow}
use Rattle.audit_log.specs.declared.queue.TheConstants.{ENTRY_LIMIT}

-- who keeps a desk's log: the keeper of its book, for how many passes there is room, and of which seats the passes will be taken in
pub record DeskKeeperView : Type 0 where
  pub book : KeeperView
  pub room : ℕ
  pub seats : SeatsView

-- the keeper is of this desk, and has room for all its passes
pub record IsKeeperOf (k : DeskKeeperView) (d : DeskView) : Type 0 where
  pub queue : k.book.queue ≡ d.lock.law.queue
  pub book_room : d.lock.id.parties ≤ k.book.room
  pub room : d.lock.id.parties ≤ k.room
  pub seats : k.seats ≡ d.seats

-- the party's standing reply is not of holding
abbrev pub Rests : Sitter → Type 0
Rests s = holds s.ticket.mine s.ticket.number ≡ false

-- passes that can be taken in: they are of the desk, and none is holding
pub record AreClosable (d : DeskView) (passes : List Sitter) : Type 0 where
  pub own : All (λ (s : Sitter). IsOf s d) passes
  pub rest : All Rests passes

-- a party whose seat agrees has taken as many numbers as its entries brought, each below the number of seats
pub record IsSettled (s : Sitter) : Type 0 where
  pub low : AreLow s.seat.table.net.width s.seat.got
  pub count : length s.seat.got ≡ grants s.ticket.mine

-- the history is a run of the rule sets; the tally's calls are its length, its grants the replies that brought a seat, and its uses the same; each account has seen a beginning of it, has its party's own part, and got numbers of seats below their number; and it has no other entries
pub record Tells (d : DeskView) (accounts : List Account) (t : DeskTally) (history : List Entry) : Type 0 where
  pub run : IsRun d.lock.law.sets history
  pub calls_is : t.calls ≡ length history % 2 ^ 64
  pub grants_is : t.grants ≡ grants history % 2 ^ 64
  pub uses_are : t.uses ≡ t.grants
  pub seen : All (λ (a : Account). Extends a.seen history) accounts
  pub mine : All (λ (a : Account). own history a.party ≡ a.mine) accounts
  pub low : All (λ (a : Account). AreLow d.seats.net.width a.got) accounts
  pub others : (q : ℕ) → All (λ (a : Account). a.party ≢ q) accounts → own history q ≡ []

-- the log has the first entries of the history, and tells whether there were more
pub record HasLog (l : DeskLog) (history : List Entry) : Type 0 where
  pub entries : l.entries.items ≡ take ENTRY_LIMIT history
  pub cut_is : l.cut ≡ nat_lt ENTRY_LIMIT (length history)
