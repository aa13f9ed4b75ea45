use Rattle.scripts.proofs.Runs.{scripts_lawful}
use Rattle.scripts.proofs.laws.scripts_are_lawful.Goals as goal

pub returns : goal.returns
returns c = scripts_lawful
