use Rattle.std.proofs.Common.{refl}
use Rattle.lint_advice.proofs.Orders.{none_left, rule_is_advised}
use Rattle.lint_advice.proofs.lines.advise_next_rule.Goals as goal

pub returns-in_default : goal.returns-in_default
returns-in_default c = (none_left c.args.left.now.groups.now c.args.left.now.rules.now c.in_default.ensures.cases c.requires.next, refl)

pub returns : goal.returns
returns c =
    rule_is_advised _ c.args.advice.now.items _ c.args.left.now.groups.now c.args.left.now.rules.now c.in-Some.rule.now c.in-Some.others.now
    c.in-Some.ensures.cases.0 c.requires.next c.requires.groups c.requires.rules c.in_ok-advise_rule.ensures
