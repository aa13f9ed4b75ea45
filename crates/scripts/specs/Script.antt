-- What a script makes at the pools of a licence, and what it writes.
use Rattle.std.specs.Prelude.{ℕ, ◌||◌, List, [], ◌∷◌, ◌++◌, length}
use Rattle.feature_lines.specs.declared.pool.Pool.{Pool}
use Rattle.options_machine.specs.Own.{holds, queues}
use Rattle.options_machine.specs.Rules.{Rules}
use Rattle.options_machine.specs.Run.{after}
use Rattle.options_machine.specs.Settle.{later_moment}
use Rattle.options_machine.specs.Step.{step}
use Rattle.options_machine.specs.declared.reply.Entry.{Entry}
use Rattle.options_machine.specs.declared.reply.Request.{Request}
use Rattle.options_text.specs.Options.{OptionsFile}
use Rattle.script_text.specs.Line.{AskedLine}
use Rattle.scripts.specs.Ledgers.{Ledger, new_ledgers}
use Rattle.scripts.specs.Walk.{Walk, after_lines, output_from}
use Rattle.scripts.specs.declared.answers.Answer.TheVariants as answers

-- the request of a line
abbrev pub request_of : AskedLine → Request
request_of line = record { party = line.party; client = line.client; kind = line.kind }

-- the entry that a line makes after a run: its moment is the later of the run's and the line's own, and its reply is the machine's
abbrev pub entry_of : List Rules → List Entry → AskedLine → Entry
entry_of sets h line = record {
  request = request_of line;
  moment = later_moment (after sets h).now line.moment;
  reply = (step sets (after sets h) (request_of line) (later_moment (after sets h).now line.moment)).0;
}

-- the ledger with the entry that a line makes there
abbrev pub with_entry_of : AskedLine → Ledger → Ledger
with_entry_of line ledger = record ledger { run = ledger.run ++ entry_of ledger.sets ledger.run line ∷ [] }

-- the walk through ledgers: a party keeps a place where its standing reply is of holding or of queueing, and an entry is answered by its reply and its place, which is the number of entries before it
abbrev pub ledger_walk : Walk Ledger
ledger_walk = record {
  pool = λ (ledger : Ledger). ledger.pool;
  keeps = λ party (ledger : Ledger). holds ledger.run party || queues ledger.run party;
  entered = with_entry_of;
  answer = λ line (ledger : Ledger). answers.Entry (entry_of ledger.sets ledger.run line).reply (length ledger.run);
}

-- the ledgers that a script leaves at these pools, by the rules of these options files
abbrev pub ledgers_of : List Pool → List OptionsFile → List AskedLine → List Ledger
ledgers_of pools files lines = after_lines ledger_walk (length files) (new_ledgers pools files) lines

-- what a script writes
abbrev pub output_of : List Pool → List OptionsFile → List AskedLine → List ℕ
output_of pools files lines = output_from ledger_walk (length files) (new_ledgers pools files) lines
