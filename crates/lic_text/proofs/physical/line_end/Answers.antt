use Rattle.std.proofs.Common.{◌∙◌}
use Rattle.lic_text.proofs.Feeds.{feed_or_end}
use Rattle.lic_text.proofs.physical.line_end.Goals as goal

pub returns-clause-place : goal.returns-clause-place
returns-clause-place c = c.unwrap_or.ensures ∙ feed_or_end c.args.bytes.now c.memchr.result c.memchr.ensures
