-- What a daemon writes at its end.
use Rattle.std.specs.Prelude.{ℕ, ◌+◌, Bool, List, [], ◌∷◌, ◌++◌, length}
use Rattle.audit_log.specs.Entries.{entry_text}
use Rattle.audit_log.specs.Summaries.{log_text, tally_text}
use Rattle.options_machine.specs.declared.reply.Entry.{Entry}
use Rattle.desk_book.specs.declared.end.DeskLog.{DeskLog}
use Rattle.feature_desk.specs.declared.closing.DeskTally.{DeskTally}

-- texts one behind another, each of them by its number, counted from this one
abbrev pub numbered_texts : {X : Type 0} → (ℕ → X → List ℕ) → ℕ → List X → List ℕ
numbered_texts text number [] = []
numbered_texts text number (x ∷ xs) = text number x ++ numbered_texts text (number + 1) xs

-- the lines of entries of a pool, each at its place, the first of them at this place
abbrev pub entries_from : ℕ → ℕ → List Entry → List ℕ
entries_from pool place entries = numbered_texts (entry_text pool) place entries

-- the lines of these entries, and the line that says how many they are and whether there were more
abbrev pub lines_with_count : ℕ → List Entry → Bool → List ℕ
lines_with_count pool entries cut = entries_from pool 0 entries ++ log_text pool (length entries) cut

-- the log of a pool
abbrev pub log_of : ℕ → DeskLog → List ℕ
log_of pool log = lines_with_count pool log.entries.items log.cut

-- the line of a pool's tally
abbrev pub tally_of : ℕ → DeskTally → List ℕ
tally_of pool tally = tally_text pool tally.calls tally.grants tally.uses

-- the logs of all pools in their order, and then their tallies
abbrev pub logs_text : List DeskLog → List DeskTally → List ℕ
logs_text logs tallies = numbered_texts log_of 0 logs ++ numbered_texts tally_of 0 tallies
