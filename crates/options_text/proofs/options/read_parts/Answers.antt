use Rattle.std.proofs.Common.{sym, ◌∙◌}
use Rattle.options_text.specs.Parts.{file_of}
use Rattle.options_text.proofs.Orders.{orderly, whole}
use Rattle.options_text.proofs.options.read_parts.Goals as goal

pub returns-in-None-clause-parts : goal.returns-in-None-clause-parts
returns-in-None-clause-parts c = whole c.args.file.now c.in_ok-entries.entries.items (file_of c.in_ok-parts.parts) _ (sym c.in_ok-entries.ensures.entries) c.in_ok-parts.ensures (sym c.in-None.is ∙ c.in_ok-undefined.ensures)

pub returns-in-None-clause-orderly : goal.returns-in-None-clause-orderly
returns-in-None-clause-orderly c =
    orderly c.args.file.now c.in_ok-entries.entries.items (file_of c.in_ok-parts.parts) c.numbers_rise.ensures (sym c.in_ok-entries.ensures.entries) c.in_ok-entries.ensures.fit c.in_ok-parts.ensures

pub returns-in-Some-clause-parts : goal.returns-in-Some-clause-parts
returns-in-Some-clause-parts c = λ _. whole c.args.file.now c.in_ok-entries.entries.items (file_of c.in_ok-parts.parts) _ (sym c.in_ok-entries.ensures.entries) c.in_ok-parts.ensures (sym c.in-Some.is ∙ c.in_ok-undefined.ensures)
