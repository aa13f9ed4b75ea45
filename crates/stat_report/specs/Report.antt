-- What a report tells of a pool.
use Rattle.std.specs.Prelude.{ℕ, ◌+◌, List, [], ◌∷◌, ◌++◌, codes, decimal}
use Rattle.std.specs.List.{flat_map}
use Rattle.counter.specs.Glances.{numbers_of}
use Rattle.counter.specs.declared.glance.Glance.{Glance}
use Rattle.feature_lines.specs.declared.pool.Pool.{Pool}
use Rattle.options_machine.specs.Rules.{Rules}
use Rattle.options_machine.specs.State.{State}
use Rattle.options_machine.specs.declared.rows.Holder.{Holder}
use Rattle.options_machine.specs.declared.rows.Lingerer.{Lingerer}
use Rattle.options_machine.specs.declared.rows.Queuer.{Queuer}
use Rattle.reply_words.specs.Words.{charge_text}

-- which pool it is
abbrev pub pool_named : ℕ → Pool → List ℕ
pool_named at pool = codes "POOL " ++ decimal at ++ 32 ∷ pool.name ++ 32 ∷ pool.version_text

-- how many seats are in use
abbrev pub pool_used : Glance → List ℕ
pool_used numbers = codes " HELD " ++ decimal numbers.held ++ codes " LINGERING " ++ decimal numbers.lingering

-- how many seats are charged to no RESERVE line, and how many may be, with which the line of a pool ends
abbrev pub pool_open : Glance → List ℕ
pool_open numbers = codes " OPEN " ++ decimal numbers.taken ++ codes " OF " ++ decimal numbers.free ++ 10 ∷ []

-- the line of the pool of this number, with its numbers
abbrev pub pool_line : ℕ → Pool → Glance → List ℕ
pool_line at pool numbers = pool_named at pool ++ pool_used numbers ++ pool_open numbers

-- the line of a seat that is held
abbrev pub held_line : Holder → List ℕ
held_line h =
    codes "HELD " ++ decimal h.party ++ 32 ∷ h.client.user ++ 32 ∷ h.client.host ++ 32 ∷ h.client.display ++ 32 ∷ h.client.project ++ 32 ∷ charge_text h.charge
    ++ codes " BEAT " ++ decimal h.beat ++ 10 ∷ []

-- the line of a seat that lingers
abbrev pub lingering_line : Lingerer → List ℕ
lingering_line l =
    codes "LINGERING" ++ 32 ∷ l.client.user ++ 32 ∷ l.client.host ++ 32 ∷ l.client.display ++ 32 ∷ l.client.project ++ 32 ∷ charge_text l.charge
    ++ codes " UNTIL " ++ decimal l.until ++ 10 ∷ []

-- the line of a party that waits at this position
abbrev pub queued_line : ℕ → Queuer → List ℕ
queued_line position q =
    codes "QUEUED " ++ decimal position ++ codes " " ++ decimal q.party ++ 32 ∷ q.client.user ++ 32 ∷ q.client.host ++ 32 ∷ q.client.display ++ 32 ∷ q.client.project ++ 10 ∷ []

-- the lines of parties that wait, behind so many others
abbrev pub queued_lines : ℕ → List Queuer → List ℕ
queued_lines before [] = []
queued_lines before (q ∷ queue) = queued_line (before + 1) q ++ queued_lines (before + 1) queue

-- the report of the pool of this number with these rule sets, in this state
abbrev pub report_text : ℕ → Pool → List Rules → State → List ℕ
report_text at pool sets state =
    pool_line at pool (numbers_of sets 0 state) ++ flat_map held_line state.holders ++ flat_map lingering_line state.lingering ++ queued_lines 0 state.queue
