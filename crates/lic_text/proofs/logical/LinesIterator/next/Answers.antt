use Rattle.std.proofs.Common.{◌≡◌, ◌+◌, [], sym, ap, ◌∙◌, arith}
use Rattle.lic_text.specs.Lines.{lines_from}
use Rattle.lic_text.specs.LinesLeft.{lines_left}
use Rattle.lic_text.proofs.Prefixes.{none_left}
use Rattle.lic_text.proofs.Parts.{no_bytes}
use Rattle.lic_text.proofs.logical.LinesIterator.next.Goals as goal

pub returns-clause-steps : goal.returns-clause-steps
returns-clause-steps c =
    let s = c.loop-self.self in
    let none : lines_left s ≡ [] = ap (lines_from (s.passed + 1)) (no_bytes s.rest.now (grind arith)) ∙ none_left (s.passed + 1) in
    (sym c.loop-self.invariant ∙ none, none)
