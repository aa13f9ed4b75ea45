use Rattle.std.proofs.Common.{sym, ◌∙◌}
use Rattle.feature_lines.proofs.Texts.{version_is_name}
use Rattle.feature_lines.proofs.line.read_version.Goals as goal

pub unreachable-requires : goal.unreachable-requires
unreachable-requires c = c.in_default.not-Ok c.args.word.now (c.read-2.ensures ∙ version_is_name c.args.word.now c.in_ok-version.version.key (sym c.in_ok-version.ensures))
