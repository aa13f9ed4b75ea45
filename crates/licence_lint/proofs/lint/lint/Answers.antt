use Rattle.licence_lint.proofs.Completing.{lint_completes}
use Rattle.licence_lint.proofs.lint.lint.Goals as goal

pub returns-clause-complete : goal.returns-clause-complete
returns-clause-complete g c = lint_completes _ _ _ _ _ _ c.perform-status.result c.perform-status.ensures.advice
