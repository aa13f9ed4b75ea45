use Rattle.std.proofs.Common.{refl, ◌∙◌}
use Rattle.options_text.proofs.Merges.{rule_written}
use Rattle.options_text.proofs.writing.write_rule.Goals as goal

pub returns : goal.returns
returns c =
    let left = c.args.left.now in
    rule_written left.groups.now left.lines.now c.in-Some.rule.now c.in-Some.others.now left.notes.now left.logs.now
    c.args.at c.in-Some.rule.now.line c.from.result c.args.text.now.items c.as_slice.result.now c.put_line.new.text.items
    c.in-Some.ensures.cases.0 c.requires.rising c.requires.next refl c.from.ensures (c.as_slice.ensures.value ∙ c.in_ok-words.ensures) c.in_ok-put_line.ensures
