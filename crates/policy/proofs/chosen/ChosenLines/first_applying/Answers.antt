use Rattle.std.proofs.Common.{List, find, ap, ◌∙◌}
use Rattle.std.specs.Option.{option_map}
use Rattle.lic_types.specs.declared.client.RuleLine.{RuleLine}
use Rattle.options_machine.specs.Decide.{number_of_line}
use Rattle.options_machine.specs.Rules.{applies}
use Rattle.policy.proofs.Others.{found_in_groups, kept_groups}
use Rattle.policy.proofs.chosen.ChosenLines.first_applying.Goals as goal

pub returns-else-may_name : goal.returns-else-may_name
returns-else-may_name c =
    c.first_at-else-may_name.ensures
    ∙ ap (λ (ls : List RuleLine). option_map number_of_line (find (applies c.args.groups.now c.args.client.now) ls)) (kept_groups _ _ _ _ _ c.as_slice-lines.ensures c.as_slice-else-may_name.ensures.value c.self.invariant.of_groups)
    ∙ ap (option_map number_of_line)
    (found_in_groups c.args.groups.now c.args.client.now c.self.inside.all c.self.inside.places.items c.self.inside.printed c.self.invariant.others (c.may_name.ensures c.if-may_name.false))
    ∙ ap (λ (ls : List RuleLine). option_map number_of_line (find (applies c.args.groups.now c.args.client.now) ls)) c.self.view_is
