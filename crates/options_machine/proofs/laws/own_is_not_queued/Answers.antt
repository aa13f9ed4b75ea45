use Rattle.options_machine.proofs.Replies.{own_not_queued}
use Rattle.options_machine.proofs.laws.own_is_not_queued.Goals as goal

pub returns : goal.returns
returns c = own_not_queued
