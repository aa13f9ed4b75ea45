use Rattle.std.proofs.Common.{refl}
use Rattle.desk_bench.proofs.desks.quit.Goals as goal

pub returns : goal.returns
returns g c = (c.ask.ensures.same_desk c.args.desk.now c.requires, (c.ask.ensures.asks.1.enters.quit refl).0)
