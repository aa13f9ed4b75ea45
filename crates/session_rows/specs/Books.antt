-- A plain book behind a lock: what it stands for, and its runs.
use Rattle.std.specs.Prelude.{◌≡◌, ℕ, ◌<◌, List, map}
use Rattle.options_machine.specs.declared.reply.Entry.{Entry}
use Rattle.options_machine.specs.declared.reply.Reply.{Reply}
use Rattle.options_machine.specs.declared.reply.Request.{Request}
use Rattle.options_machine.specs.Law.{AreSets}
use Rattle.options_machine.specs.Run.{AsksForSet, IsRun, after}
use Rattle.options_machine.specs.Settle.{later_moment}
use Rattle.options_machine.specs.State.{set_at}
use Rattle.turn_lock.specs.declared.kept.Entry as turn
use Rattle.session_rows.specs.declared.book.BookLaw.{BookLaw}
use Rattle.session_rows.specs.declared.book.LoggedBook.{LoggedBook}

-- a call of the lock
abbrev pub Call : Type 0
Call = turn.Entry Request Reply

-- the entry of a call
abbrev pub entry_of : Call → Entry
entry_of c = record { request = c.request; moment = c.used; reply = c.answer }

abbrev pub entries_of : List Call → List Entry
entries_of h = map entry_of h

abbrev pub law_of : LoggedBook → BookLaw
law_of b = record { sets = b.book.sets; parties = b.book.parties }

-- the party is one of the book's, and a rule set that is asked for is there
pub record Fits (l : BookLaw) (q : Request) : Type 0 where
  pub party : q.party < l.parties
  pub set : AsksForSet l.sets q

-- a run of the book's rule sets, which are one to four of one count
pub record Runs (l : BookLaw) (h : List Call) : Type 0 where
  pub sets : AreSets l.sets (set_at l.sets 0).count
  pub run : IsRun l.sets (entries_of h)

-- the moment to which settling brings the state after these calls
abbrev pub used_at : BookLaw → List Call → ℕ → ℕ
used_at l h moment = later_moment (after l.sets (entries_of h)).now moment

-- the book has the state after these calls
abbrev pub Stands : LoggedBook → List Call → Type 0
Stands b h = b.book.state ≡ after b.book.sets (entries_of h)
