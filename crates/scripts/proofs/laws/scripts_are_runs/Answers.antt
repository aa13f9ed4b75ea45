use Rattle.scripts.proofs.Runs.{scripts_run}
use Rattle.scripts.proofs.laws.scripts_are_runs.Goals as goal

pub returns : goal.returns
returns c = λ pools files lines fit. scripts_run pools files lines
