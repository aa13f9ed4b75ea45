use Rattle.lic_types.specs.declared.client.RuleLine.{RuleLine}
use Rattle.options_text.proofs.Rising.{once}
use Rattle.options_text.proofs.options.Options.lines.Goals as goal

pub returns-clause-once : goal.returns-clause-once
returns-clause-once c = λ line. rw (← c.self.view_is) (once (λ (l : RuleLine). l.line) line c.self.inside.lines c.self.invariant.orderly.lines_rise)
