-- What is known of a desk's book when its lock was closed with all its passes.
use Rattle.std.specs.Prelude.{◌≡◌, ◌≢◌, ℕ, ◌%◌, ◌^◌, ◌<◌, nat_lt, List, [], ◌∷◌, length, take, All, sum_by}
use Rattle.atomic_table.specs.Seated.{TableId}
use Rattle.counter.specs.Account.{Extends, grants}
use Rattle.options_machine.specs.declared.reply.Entry.{Entry}
use Rattle.options_machine.specs.Own.{own}
use Rattle.options_machine.specs.Run.{IsRun}
use Rattle.desk_book.specs.declared.book.DeskLaw.{DeskLaw}
use Rattle.desk_book.specs.declared.end.Closed.{Closed}
use Rattle.desk_book.specs.Askers.{Asker, Ticket, asker_of}
use Rattle.audit_log.specs.declared.queue.TheConstants.{ENTRY_LIMIT}

-- who keeps the end of a book's log: of which queue, what was taken out of it, and for how many passes there is room at the close
pub record KeeperView : Type 0 where
  pub queue : TableId
  pub taken : List Entry
  pub room : ℕ

-- the history is a run, of which the log has the first entries; each party has seen a beginning of it and has its own part, and it has no other entries
pub record Tells (law : DeskLaw) (passes : List Asker) (c : Closed) (history : List Entry) : Type 0 where
  pub run : IsRun law.sets history
  pub calls_is : c.calls ≡ length history % 2 ^ 64
  pub grants_is : c.grants ≡ grants history % 2 ^ 64
  pub logged : c.log.entries.items ≡ take ENTRY_LIMIT history
  pub cut_is : c.log.cut ≡ nat_lt ENTRY_LIMIT (length history)
  pub seen : All (λ (a : Asker). Extends a.seen history) passes
  pub mine : All (λ (a : Asker). own history a.number ≡ a.mine) passes
  -- the parties' numbers are those below their number
  pub low : All (λ (a : Asker). a.number < length passes) passes
  pub others : (q : ℕ) → All (λ (a : Asker). a.number ≢ q) passes → own history q ≡ []
  -- whatever an entry counts for, the parties' own entries count for what the history does
  pub sums : (f : Entry → ℕ) → sum_by (λ (a : Asker). sum_by f a.mine) passes ≡ sum_by f history

-- the passes of the lock that these parties have, in order
abbrev pub AreTickets : List Asker → List Ticket → Type 0
AreTickets [] [] = Unit {0}
AreTickets [] (t ∷ ts) = ⊥
AreTickets (p ∷ ps) [] = ⊥
AreTickets (p ∷ ps) (t ∷ ts) = (asker_of t p.board p.known ≡ p) × AreTickets ps ts
