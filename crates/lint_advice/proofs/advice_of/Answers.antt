use Rattle.std.proofs.Common.{List, map, sym, subst}
use Rattle.lic_types.specs.Groups.{GroupLine}
use Rattle.lic_types.specs.declared.client.RuleLine.{RuleLine}
use Rattle.options_text.specs.Rises.{AreRising}
use Rattle.options_text.proofs.Rising.{all_rising}
use Rattle.lint_advice.proofs.advice_of.Goals as goal

pub advise_lines-requires-clause-groups : goal.advise_lines-requires-clause-groups
advise_lines-requires-clause-groups c =
    let P : List GroupLine → Type 0 = λ xs. AreRising (map (λ (g : GroupLine). g.line) xs) in
    subst P (sym c.groups.ensures.groups) (all_rising _ c.groups.ensures.rising)

pub advise_lines-requires-clause-rules : goal.advise_lines-requires-clause-rules
advise_lines-requires-clause-rules c =
    let P : List RuleLine → Type 0 = λ xs. AreRising (map (λ (l : RuleLine). l.line) xs) in
    subst P (sym c.lines.ensures.lines) (all_rising _ c.lines.ensures.rising)
