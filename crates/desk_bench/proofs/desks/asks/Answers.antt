use Rattle.desk_bench.proofs.desks.asks.Goals as goal

pub returns : goal.returns
returns g c = c.ask.ensures.same_desk c.args.desk.now c.requires.of
