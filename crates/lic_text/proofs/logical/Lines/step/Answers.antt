use Rattle.std.proofs.Common.{◌+◌}
use Rattle.lic_text.specs.Physical.{physical_lines}
use Rattle.lic_text.specs.Left.{words_left}
use Rattle.lic_text.proofs.Steps.{step_comment, step_fault, step_told, step_silent}
use Rattle.lic_text.proofs.logical.Lines.step.Goals as goal

pub returns-then-is_comment-clause-told : goal.returns-then-is_comment-clause-told
returns-then-is_comment-clause-told c =
    step_comment (physical_lines c.args.self.now.rest.now) c.cut_line.result.0.now (physical_lines c.cut_line.result.1.now) c.args.self.now.passed c.cut_line.ensures.cut c.if-is_comment.ensures

pub returns-in-Some-clause-told : goal.returns-in-Some-clause-told
returns-in-Some-clause-told c =
    step_fault (physical_lines c.args.self.now.rest.now) c.cut_line.result.0.now (physical_lines c.cut_line.result.1.now) (c.args.self.now.passed + 1) (c.args.self.now.passed + 1) c.measure-extent.result.length c.measure-extent.result.is_open c.in-Some.fault
    c.cut_line.ensures.cut c.if-is_comment.ensures c.measure-extent.ensures.length c.measure-extent.ensures.is_open c.in-Some.ensures

pub returns-then-has_words-clause-told : goal.returns-then-has_words-clause-told
returns-then-has_words-clause-told c =
    step_told (physical_lines c.args.self.now.rest.now) c.cut_line.result.0.now (physical_lines c.cut_line.result.1.now) (physical_lines c.measure-extent.result.rest.now) (words_left c.beginning-words.result) c.args.self.now.passed c.measure-extent.result.length c.measure-extent.result.count c.measure-extent.result.is_open
    c.cut_line.ensures.cut c.if-is_comment.ensures c.measure-extent.ensures.length c.measure-extent.ensures.is_open c.measure-extent.ensures.count c.measure-extent.ensures.rest c.in_default.ensures c.beginning-words.ensures.words c.if-has_words.ensures

pub returns-else-has_words-clause-told : goal.returns-else-has_words-clause-told
returns-else-has_words-clause-told c =
    step_silent (physical_lines c.args.self.now.rest.now) c.cut_line.result.0.now (physical_lines c.cut_line.result.1.now) (physical_lines c.measure-extent.result.rest.now) (words_left c.beginning-words.result) c.args.self.now.passed c.measure-extent.result.length c.measure-extent.result.count c.measure-extent.result.is_open
    c.cut_line.ensures.cut c.if-is_comment.ensures c.measure-extent.ensures.length c.measure-extent.ensures.is_open c.measure-extent.ensures.count c.measure-extent.ensures.rest c.in_default.ensures c.beginning-words.ensures.words c.if-has_words.ensures
