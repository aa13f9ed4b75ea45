use Rattle.std.proofs.Common.{◌≡◌, ◌++◌, drop}
use Rattle.scripts.specs.Reports.{run_reports}
use Rattle.scripts.proofs.reporting.put_reports.Given as goal

-- with the reports of the pools that are left, all are written
abbrev pub invariant-loop-at : goal.invariant-loop-at
invariant-loop-at l = l.text.items ++ run_reports l.at (drop l.at l.runs) ≡ l.fn.text.items ++ run_reports 0 l.runs
