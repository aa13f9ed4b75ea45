use Rattle.options_machine.proofs.Moments.{now_after}
use Rattle.options_machine.proofs.laws.moments_are_bounded.Goals as goal

pub returns : goal.returns
returns c = now_after
