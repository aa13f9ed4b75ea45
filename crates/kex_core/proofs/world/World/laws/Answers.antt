use Rattle.std.proofs.Common.{subst}
use Rattle.kex_core.specs.Shapes.{plan, machine, IsWorld}
use Rattle.kex_core.proofs.Runs.{safe_of}
use Rattle.kex_core.proofs.world.World.laws.Goals as goal

pub returns-clause-kept : goal.returns-clause-kept
returns-clause-kept c = (subst IsWorld c.self.view_is c.self.invariant).kept

pub returns-clause-safe : goal.returns-clause-safe
returns-clause-safe c = let w : IsWorld c.args.self.now = subst IsWorld c.self.view_is c.self.invariant in safe_of (plan c.args.self.now.net) w.net.valid (machine c.args.self.now) w.kept
