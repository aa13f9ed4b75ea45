use Rattle.std.proofs.Common.{◌++◌, ap, ◌∙◌, Option}
use Rattle.std.specs.Option.{option_to_list}
use Rattle.lint_advice.specs.declared.advice.Advice.{Advice}
use Rattle.lint_advice.proofs.Orders.{group_is_advised}
use Rattle.lint_advice.proofs.lines.advise_next_group.Goals as goal

pub returns : goal.returns
returns c =
    group_is_advised _ c.args.advice.now.items _ c.args.left.now.groups.now c.in-Some.group.now c.in-Some.others.now c.args.left.now.rules.now
    c.in-Some.ensures.cases.0 c.requires.next c.requires.groups c.requires.rules
    (c.in_ok-put.ensures ∙ ap (λ (o : Option Advice). c.args.advice.now.items ++ option_to_list o) c.no_rule.ensures)
