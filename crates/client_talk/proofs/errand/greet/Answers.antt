use Rattle.client_talk.specs.Talks.{hello_line}
use Rattle.client_talk.specs.declared.want.Want.TheVariants.{Welcome}
use Rattle.client_talk.proofs.errand.greet.Goals as goal

pub returns : goal.returns
returns g c = c.ask_made.ensures (hello_line c.args.client.now) Welcome c.hello.ensures
