use Rattle.options_machine.proofs.Replies.{sets_reread}
use Rattle.options_machine.proofs.laws.sets_are_reread.Goals as goal

pub returns : goal.returns
returns c = sets_reread
