use Rattle.desk_rows.proofs.tests.desks.asks.Goals as goal

pub returns : goal.returns
returns g c = c.ask.ensures.same_desk c.args.desk.now c.requires.of
