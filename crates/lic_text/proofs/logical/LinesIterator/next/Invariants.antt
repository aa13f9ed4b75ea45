use Rattle.std.proofs.Common.{◌≡◌, length}
use Rattle.lic_text.specs.LinesLeft.{lines_left}
use Rattle.lic_text.proofs.logical.LinesIterator.next.Given as goal

abbrev pub invariant-loop-self : goal.invariant-loop-self
invariant-loop-self l = lines_left l.self ≡ lines_left l.fn.self

abbrev pub decreases-loop-self : goal.decreases-loop-self
decreases-loop-self l = length l.self.rest.now
