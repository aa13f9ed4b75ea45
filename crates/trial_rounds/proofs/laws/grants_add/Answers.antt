use Rattle.trial_rounds.proofs.Sums.{grants_product}
use Rattle.trial_rounds.proofs.laws.grants_add.Goals as goal

pub returns : goal.returns
returns c = grants_product
