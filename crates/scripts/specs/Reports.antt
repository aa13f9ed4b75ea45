-- What is told of pools after a script.
use Rattle.std.specs.Prelude.{ℕ, ◌+◌, List, [], ◌∷◌, ◌++◌}
use Rattle.feature_lines.specs.declared.pool.Pool.{Pool}
use Rattle.options_machine.specs.Run.{after}
use Rattle.options_text.specs.Options.{OptionsFile}
use Rattle.script_text.specs.Line.{AskedLine}
use Rattle.scripts.specs.Ledgers.{Ledger}
use Rattle.scripts.specs.Script.{ledgers_of}
use Rattle.scripts.specs.declared.pool_run.PoolRun.{PoolRun}
use Rattle.stat_report.specs.Report.{report_text}

-- the reports of the pools of these ledgers, of which the first has this number: each in the state that its entries leave
abbrev pub reports : ℕ → List Ledger → List ℕ
reports at [] = []
reports at (ledger ∷ ledgers) = report_text at ledger.pool ledger.sets (after ledger.sets ledger.run) ++ reports (at + 1) ledgers

-- what is told of these pools, by the rules of these options files, after a script
abbrev pub report_of : List Pool → List OptionsFile → List AskedLine → List ℕ
report_of pools files lines = reports 0 (ledgers_of pools files lines)

-- the reports of runs, of which the first has this number
abbrev pub run_reports : ℕ → List PoolRun → List ℕ
run_reports at [] = []
run_reports at (run ∷ runs) = report_text at run.pool run.book.sets run.book.state ++ run_reports (at + 1) runs
