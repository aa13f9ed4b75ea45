-- What is written at the end of pools with these histories.
use Rattle.std.specs.Prelude.{◌≡◌, ℕ, ◌%◌, ◌^◌, ◌<◌, nat_lt, List, [], ◌++◌, length, slice_index_or, take}
use Rattle.audit_log.specs.Summaries.{tally_text}
use Rattle.audit_log.specs.declared.queue.TheConstants.{ENTRY_LIMIT}
use Rattle.options_machine.specs.declared.reply.Entry.{Entry}
use Rattle.counter.specs.Account.{grants}
use Rattle.desk_book.specs.declared.end.DeskLog.{DeskLog}
use Rattle.feature_desk.specs.Closings.{HasLog}
use Rattle.feature_desk.specs.declared.closing.DeskTally.{DeskTally}
use Rattle.desk_logs.specs.Text.{lines_with_count, logs_text, numbered_texts}

-- the log of a pool with this history: its first 4,096 entries, and whether there were more
abbrev pub log_end : ℕ → List Entry → List ℕ
log_end pool history = lines_with_count pool (take ENTRY_LIMIT history) (nat_lt ENTRY_LIMIT (length history))

-- its tally: its entries, the replies of them that brought a seat, and the same again, since its cards were taken as often
abbrev pub tally_end : ℕ → List Entry → List ℕ
tally_end pool history = tally_text pool (length history % 2 ^ 64) (grants history % 2 ^ 64) (grants history % 2 ^ 64)

-- the logs of pools with these histories, and then their tallies
abbrev pub ends_text : List (List Entry) → List ℕ
ends_text histories = numbered_texts log_end 0 histories ++ numbered_texts tally_end 0 histories

-- a log and a tally are those of this history
pub record IsEnd (log : DeskLog) (tally : DeskTally) (history : List Entry) : Type 0 where
  pub log_is : HasLog log history
  pub calls_is : tally.calls ≡ length history % 2 ^ 64
  pub grants_is : tally.grants ≡ grants history % 2 ^ 64
  pub uses_are : tally.uses ≡ tally.grants

-- so it is of each pool
pub record AreEnds (logs : List DeskLog) (tallies : List DeskTally) (histories : List (List Entry)) : Type 0 where
  pub logs_are : length logs ≡ length histories
  pub tallies_are : length tallies ≡ length histories
  pub each : (pool : ℕ) (l : DeskLog) (t : DeskTally) → pool < length histories
      → IsEnd (slice_index_or logs pool l) (slice_index_or tallies pool t) (slice_index_or histories pool [])

-- what is written of such logs and tallies is what their histories call for
abbrev pub EndsAreWritten : Type 0
EndsAreWritten = (logs : List DeskLog) (tallies : List DeskTally) (histories : List (List Entry))
    → AreEnds logs tallies histories → logs_text logs tallies ≡ ends_text histories
