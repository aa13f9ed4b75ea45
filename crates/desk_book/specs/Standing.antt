-- What a desk's book stands for, and its runs.
use Rattle.std.specs.Prelude.{◌≡◌, ℕ, ◌+◌, ◌%◌, ◌^◌, ◌<◌, ◌≤◌, true, nat_lt, List, [], length, map, min, take, slice_get, Some}
use Rattle.counter.specs.Account.{grants}
use Rattle.options_machine.specs.declared.reply.Entry.{Entry}
use Rattle.options_machine.specs.declared.reply.Request.{Request}
use Rattle.options_machine.specs.Law.{AreSets}
use Rattle.options_machine.specs.Run.{AsksForSet, IsRun, after}
use Rattle.options_machine.specs.Settle.{later_moment}
use Rattle.options_machine.specs.State.{set_at}
use Rattle.stat_board.specs.Fronts.{Front}
use Rattle.stat_board.specs.Rule.{Posted}
use Rattle.turn_lock.specs.declared.kept.Entry as turn
use Rattle.desk_book.specs.declared.book.DeskBook.{DeskBook}
use Rattle.desk_book.specs.declared.book.DeskLaw.{DeskLaw}
use Rattle.desk_book.specs.declared.book.NotedReply.{NotedReply}
use Rattle.audit_log.specs.declared.queue.TheConstants.{ENTRY_LIMIT}

-- a call of the lock
abbrev pub Call : Type 0
Call = turn.Entry Request NotedReply

-- the entry of a call
abbrev pub entry_of : Call → Entry
entry_of c = record { request = c.request; moment = c.used; reply = c.answer.reply }

abbrev pub entries_of : List Call → List Entry
entries_of h = map entry_of h

-- the front of the same board that stands for this list
abbrev pub at : Front → List Entry → Front
at f list = record f { list = list }

-- what stays the same of a book: of its board, what it showed before the first entry
abbrev pub law_of : DeskBook → DeskLaw
law_of b = record { sets = b.book.sets; parties = b.book.parties; queue = b.log.queue; board = at b.board.front [] }

-- the party is one of the book's, and a rule set that is asked for is there
pub record Fits (l : DeskLaw) (q : Request) : Type 0 where
  pub party : q.party < l.parties
  pub set : AsksForSet l.sets q

-- n entries were published: the note of each stands for the entries up to and with it, and from the n-th on for the first n
abbrev pub AreNoted : Front → ℕ → List Call → Type 0
AreNoted f n h = (k : ℕ) (c : Call) → slice_get h k ≡ Some c → c.answer.note ≡ at f (take (min (k + 1) n) (entries_of h))

-- a run of the book's rule sets, which are one to four of one count and those of its board, with the notes of some number of published entries
pub record Runs (l : DeskLaw) (h : List Call) : Type 0 where
  pub sets : AreSets l.sets (set_at l.sets 0).count
  pub board_sets : l.board.sets ≡ l.sets
  pub run : IsRun l.sets (entries_of h)
  pub published : ℕ
  pub noted : AreNoted l.board published h

-- the moment to which settling brings the state after these calls
abbrev pub used_at : DeskLaw → List Call → ℕ → ℕ
used_at l h moment = later_moment (after l.sets (entries_of h)).now moment

-- the board shows the first n of these calls, which are all of them as long as it is live
pub record Shows (b : Posted) (h : List Call) : Type 0 where
  pub published : ℕ
  pub noted : AreNoted b.front published h
  pub shown : b.front.list ≡ take published (entries_of h)
  pub all : b.live ≡ true → length h ≤ published

-- the book has the state after these calls, of which so many brought a seat; the first of them are in the log, and the board shows them
pub record Stands (b : DeskBook) (h : List Call) : Type 0 where
  pub state : b.book.state ≡ after b.book.sets (entries_of h)
  pub grants_is : b.book.grants ≡ grants (entries_of h) % 2 ^ 64
  pub logged : b.log.pushed ≡ take ENTRY_LIMIT (entries_of h)
  pub cut_is : b.cut ≡ nat_lt ENTRY_LIMIT (length (entries_of h))
  pub board_shows : Shows b.board h
