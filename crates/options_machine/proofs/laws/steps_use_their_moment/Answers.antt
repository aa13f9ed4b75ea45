use Rattle.options_machine.proofs.Moments.{steps_use}
use Rattle.options_machine.proofs.laws.steps_use_their_moment.Goals as goal

pub returns : goal.returns
returns c = steps_use
