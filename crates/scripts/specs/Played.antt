-- Where a script stands while it is played.
use Rattle.std.specs.Prelude.{◌≡◌, ℕ, ◌≤◌, ◌<◌, false, ◌||◌, List, ◌++◌, length, get_or, map, Option}
use Rattle.std.specs.List.{AllZip}
use Rattle.lic_types.specs.declared.limits.TheConstants.{MOMENT_END, PARTY_LIMIT}
use Rattle.feature_lines.specs.declared.pool.Pool.{Pool}
use Rattle.options_machine.specs.Own.{holds, queues}
use Rattle.options_machine.specs.Run.{after}
use Rattle.script_text.specs.Line.{AskedLine}
use Rattle.scripts.specs.Ledgers.{Ledger}
use Rattle.scripts.specs.Script.{ledger_walk}
use Rattle.scripts.specs.Walk.{output_from}
use Rattle.scripts.specs.Written.{IsLeft}
use Rattle.scripts.specs.declared.pool_run.PoolRun.{PoolRun}

-- a run stands where its ledger says, after so many lines, with so many rule sets
pub record IsRunOf (sets lines : ℕ) (run : PoolRun) (ledger : Ledger) : Type 0 where
  pub pool : run.pool ≡ ledger.pool
  pub rules : run.book.sets ≡ ledger.sets
  pub many : length ledger.sets ≡ sets
  pub parties : run.book.parties ≡ PARTY_LIMIT
  pub reached : run.book.state ≡ after ledger.sets ledger.run
  pub small : (after ledger.sets ledger.run).now < MOMENT_END
  pub counted : run.entries ≡ length ledger.run
  pub few : length ledger.run ≤ lines
  pub room : length run.places ≡ PARTY_LIMIT
  pub kept : (party : ℕ) → party < PARTY_LIMIT → get_or run.places party false ≡ (holds ledger.run party || queues ledger.run party)

-- each run stands where its ledger says
abbrev pub AreRunsOf : ℕ → ℕ → List PoolRun → List Ledger → Type 0
AreRunsOf sets lines runs ledgers = AllZip (IsRunOf sets lines) runs ledgers

-- where a script stands after so many lines: the ledgers of the pools so far, and the runs
pub record IsReached (sets lines : ℕ) (pools : List Pool) (runs : List PoolRun) : Type 0 where
  pub ledgers : List Ledger
  pub pooled : map (λ (l : Ledger). l.pool) ledgers ≡ pools
  pub follow : AreRunsOf sets lines runs ledgers

-- and what is left to write: what was gathered, and the output lines of the lines that are left
pub record IsPlayed {S : Type 0} (held : S → Option (List ℕ)) (faults : S → ℕ) (sets lines : ℕ) (pools : List Pool) (runs : List PoolRun) (left : List AskedLine) (old now : S) (gathered whole : List ℕ) : Type 0 where
  pub reached : IsReached sets lines pools runs
  pub text : IsLeft held faults old now (gathered ++ output_from ledger_walk sets reached.ledgers left) whole
