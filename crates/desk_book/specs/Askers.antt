-- What a party is to its desk's book, and what one call adds.
use Rattle.std.specs.Prelude.{◌≡◌, ℕ, ◌%◌, ◌^◌, List, [], ◌∷◌, ◌++◌, length, min, take}
use Rattle.counter.specs.Account.{Extends}
use Rattle.options_machine.specs.declared.reply.Entry.{Entry}
use Rattle.options_machine.specs.declared.reply.Request.{Request}
use Rattle.options_machine.specs.Law.{AreSets}
use Rattle.options_machine.specs.Own as machine
use Rattle.options_machine.specs.Run.{IsRun, after}
use Rattle.options_machine.specs.Settle.{later_moment}
use Rattle.options_machine.specs.State.{set_at}
use Rattle.stat_board.specs.Fronts.{Front, IsSameBoard}
use Rattle.turn_lock.specs.Entries as turns
use Rattle.turn_lock.specs.Passes.{Lock, LockId, Pass}
use Rattle.desk_book.specs.declared.book.DeskLaw.{DeskLaw}
use Rattle.desk_book.specs.declared.book.NotedReply.{NotedReply}
use Rattle.desk_book.specs.Standing.{AreNoted, Call, Runs, entries_of}

-- a party: of which book, its number, the history as it was seen last and the party's own part of it, how many of those entries the board showed at its last call, and what it knows of the board
pub record Asker : Type 0 where
  pub lock : LockId
  pub number : ℕ
  pub law : DeskLaw
  pub seen : List Entry
  pub mine : List Entry
  pub board : ℕ
  pub known : Front

-- a party that has asked nothing yet
abbrev pub newcomer : Lock DeskLaw → ℕ → Asker
newcomer lock number = record { lock = lock.id; number = number; law = lock.law; seen = []; mine = []; board = 0; known = lock.law.board }

-- a party's pass of the lock
abbrev pub Ticket : Type 0
Ticket = Pass DeskLaw Request NotedReply

-- a party, by its pass of the lock and what it knows of the board
abbrev pub asker_of : Ticket → ℕ → Front → Asker
asker_of t board known = record { lock = t.lock; number = t.number; law = t.law; seen = entries_of t.seen; mine = entries_of t.mine; board = board; known = known }

abbrev pub party_of : Request → ℕ
party_of q = q.party

-- however many entries were published in all, so many of those that were seen were
abbrev pub IsCount : Front → List Call → ℕ → Type 0
IsCount f seen board = (n : ℕ) → AreNoted f n seen → board ≡ min (length seen) n

-- what a party keeps: what it saw is a run and holds its own part, and what it knows of the board begins with the entries that its last note stands for
pub record IsInformed (t : Ticket) (board : ℕ) (known : Front) : Type 0 where
  pub whole : t.law.parties ≡ t.lock.parties
  pub runs : Runs t.law t.seen
  pub own_is : turns.own party_of t.number t.seen ≡ t.mine
  pub count : IsCount t.law.board t.seen board
  pub same : IsSameBoard t.law.board known
  pub told : Extends (take board (entries_of t.seen)) known.list

-- one call makes one entry, which is the party's own and the last of the history as it is seen now
pub record Makes (old new : Asker) (moment place : ℕ) (before : List Entry) (e : Entry) : Type 0 where
  -- the history begins with what was seen before, and is a run of the rule sets, which are one to four of one count
  pub since : Extends old.seen before
  pub seen : new.seen ≡ before ++ e ∷ []
  pub sets : AreSets new.law.sets (set_at new.law.sets 0).count
  pub run : IsRun new.law.sets new.seen
  -- the entry is one more of the party's own
  pub mine : new.mine ≡ old.mine ++ e ∷ []
  pub only : new.mine ≡ machine.own new.seen new.number
  -- the moment is that to which settling brings the state before it
  pub moment_is : e.moment ≡ later_moment (after new.law.sets before).now moment
  pub place_is : place ≡ length before % 2 ^ 64
