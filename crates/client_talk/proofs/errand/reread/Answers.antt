use Rattle.client_talk.specs.Talks.{reread_line}
use Rattle.client_talk.specs.declared.want.Want.TheVariants.{Reread}
use Rattle.client_talk.proofs.errand.reread.Goals as goal

pub returns : goal.returns
returns g c = c.ask_greeted.ensures (reread_line c.args.number.now) Reread c.reread-made.ensures
