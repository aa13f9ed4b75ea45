use Rattle.std.proofs.Common.{length, ap, arith}
use Rattle.policy.proofs.Placings.{length-lines_at}
use Rattle.policy.proofs.chosen.ChosenLines.len.Goals as goal

pub returns : goal.returns
returns c = omega (arith, ap length c.self.view_is, length-lines_at c.self.inside.all c.self.inside.places.items c.self.invariant.there, c.len.ensures)
