use Rattle.licence_lint.proofs.Linting.{forgotten}
use Rattle.licence_lint.proofs.lint.perform.Goals as goal

pub returns-in-NoMemory-clause-advice : goal.returns-in-NoMemory-clause-advice
returns-in-NoMemory-clause-advice g c = forgotten _ _ _ _ _
