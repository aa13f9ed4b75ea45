use Rattle.kex_core.specs.Shapes.{plan}
use Rattle.kex_core.proofs.Feeders.{sole}
use Rattle.kex_core.proofs.net.Net.behind.Goals as goal

pub returns-in-Some : goal.returns-in-Some
returns-in-Some c = let e = c.in-Some.ensures in
    sole (plan c.args.self.now) c.args.p c.args.j c.in-Some.i c.laws.ensures.valid c.requires.party c.requires.stage c.requires.path c.requires.later e.0 e.1 e.2
