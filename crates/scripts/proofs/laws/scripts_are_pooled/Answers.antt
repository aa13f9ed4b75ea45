use Rattle.scripts.proofs.GoingOn.{scripts_pooled}
use Rattle.scripts.proofs.laws.scripts_are_pooled.Goals as goal

pub returns : goal.returns
returns c = scripts_pooled
