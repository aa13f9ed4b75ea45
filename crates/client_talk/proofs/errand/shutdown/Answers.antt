use Rattle.client_talk.specs.Talks.{shutdown_line}
use Rattle.client_talk.specs.declared.want.Want.TheVariants.{Stopping}
use Rattle.client_talk.proofs.errand.shutdown.Goals as goal

pub returns : goal.returns
returns g c = c.ask_made.ensures shutdown_line Stopping c.make.ensures
