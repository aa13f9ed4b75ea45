use Rattle.std.specs.Prelude.{List, [], map}
use Rattle.feature_lines.specs.declared.pool.Pool.{Pool}
use Rattle.options_machine.specs.Rules.{Rules}
use Rattle.options_machine.specs.declared.reply.Entry.{Entry}
use Rattle.options_text.specs.Options.{OptionsFile}
use Rattle.policy.specs.Pools.{rules_of}

-- a pool, its rule sets, and the entries that were made there so far
pub record Ledger : Type 0 where
  pub pool : Pool
  pub sets : List Rules
  pub run : List Entry

-- a pool with one rule set for each options file, and no entry yet
abbrev pub new_ledger : List OptionsFile → Pool → Ledger
new_ledger files pool = record { pool = pool; sets = map (rules_of pool) files; run = [] }

-- the ledgers of all pools, before the first entry
abbrev pub new_ledgers : List Pool → List OptionsFile → List Ledger
new_ledgers pools files = map (new_ledger files) pools
