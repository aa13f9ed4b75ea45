use Rattle.std.proofs.Common.{not, ap, ◌∙◌}
use Rattle.lic_types.proofs.NameSets.{finds_name}
use Rattle.feature_lines.proofs.names.add_name.Goals as goal

pub returns-clause-ok : goal.returns-clause-ok
returns-clause-ok c = c.in_ok-insert.ensures.added ∙ ap not (finds_name c.args.name c.args.names.now.keys)
