use Rattle.client_talk.specs.declared.want.Want.TheVariants.{Answer}
use Rattle.client_talk.proofs.errand.ask.Goals as goal

pub returns : goal.returns
returns g c = c.ask_greeted.ensures c.args.words.now Answer c.make-made.ensures
