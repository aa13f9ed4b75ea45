use Rattle.std.proofs.Common.{ap, ◌∙◌, is_some}
use Rattle.options_machine.specs.Decide.{number_of_line}
use Rattle.options_machine.specs.Rules.{applies}
use Rattle.policy.proofs.Finds.{any_found}
use Rattle.policy.proofs.chosen.ChosenLines.any_applies.Goals as goal

pub returns-else-leads_to_one-4 : goal.returns-else-leads_to_one-4
returns-else-leads_to_one-4 c =
    c.is_some.ensures
    ∙ ap is_some c.first_applying.ensures
    ∙ any_found number_of_line (applies c.args.groups.now c.args.client.now) c.args.self.now
