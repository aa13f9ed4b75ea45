use Rattle.std.proofs.Common.{length, ap, arith}
use Rattle.policy.proofs.Placings.{length-limits_at}
use Rattle.policy.proofs.limits.Limits.len.Goals as goal

pub returns : goal.returns
returns c = omega (arith, ap length c.self.view_is, length-limits_at c.self.inside.all c.self.inside.limits.items c.self.invariant, c.len.ensures)
