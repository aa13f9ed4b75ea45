use Rattle.std.proofs.Common.{◌++◌, ◌∙◌, List, ℕ, ap, length}
use Rattle.scripts.specs.Reports.{run_reports}
use Rattle.scripts.specs.Script.{ledgers_of}
use Rattle.scripts.proofs.Reached.{all_new, same_reports}
use Rattle.scripts.proofs.reporting.report_script.Goals as goal

pub returns-clause-text : goal.returns-clause-text
returns-clause-text c =
    c.in_ok-put_reports.ensures
    ∙ (ap (λ (t : List ℕ). t ++ run_reports 0 c.as_slice.result.now) c.new-text.ensures.items
    ∙ (ap (run_reports 0) (c.as_slice.ensures.value ∙ all_new c.in_ok-runs.runs.len c.enter_lines.new.runs _ (c.enter_lines.ensures.len ∙ c.as_mut_slice.ensures.len))
    ∙ same_reports (length c.args.options.now) (length c.args.lines.now) 0 c.enter_lines.new.runs (ledgers_of c.args.licence.now.pools c.args.options.now c.args.lines.now) c.enter_lines.ensures.runs))
