use Rattle.lic_text.specs.Physical.{physical_lines}
use Rattle.lic_text.proofs.Joins.{goes_on, goes_to_end}
use Rattle.lic_text.proofs.Parts.{no_lines}
use Rattle.std.proofs.Common.{◌∷◌, refl}
use Rattle.lic_text.proofs.words.Words.beginning.Goals as goal

pub returns-in-Some-clause-words : goal.returns-in-Some-clause-words
returns-in-Some-clause-words c =
    goes_on (c.args.text.now ∷ physical_lines c.args.behind.now) (physical_lines c.args.behind.now) c.args.text.now c.in-Some.front.now refl c.in-Some.ensures.0 c.in-Some.ensures.1

pub returns-in-None-clause-words : goal.returns-in-None-clause-words
returns-in-None-clause-words c =
    rw no_lines (goes_to_end (c.args.text.now ∷ physical_lines c.args.behind.now) (physical_lines c.args.behind.now) c.args.text.now refl c.in-None.ensures)
