use Rattle.std.proofs.Common.{◌≡◌, length}
use Rattle.lic_text.specs.Left.{words_left}
use Rattle.lic_text.proofs.words.WordsIterator.next.Given as goal

abbrev pub invariant-loop-self : goal.invariant-loop-self
invariant-loop-self l = words_left l.self ≡ words_left l.fn.self

abbrev pub decreases-loop-self : goal.decreases-loop-self
decreases-loop-self l = length l.self.further.now
