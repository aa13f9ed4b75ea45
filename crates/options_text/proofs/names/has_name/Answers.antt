use Rattle.std.proofs.Common.{◌∙◌}
use Rattle.lic_types.proofs.NameSets.{finds_name}
use Rattle.options_text.proofs.names.has_name.Goals as goal

pub returns : goal.returns
returns c = c.contains.ensures ∙ finds_name c.args.name.now c.args.names.now.keys
