use Rattle.std.proofs.Common.{◌∙◌}
use Rattle.options_text.proofs.Merges.{group_written}
use Rattle.options_text.proofs.writing.write_group.Goals as goal

pub returns : goal.returns
returns c =
    let left = c.args.left.now in
    group_written left.groups.now c.in-Some.group.now c.in-Some.others.now left.lines.now left.notes.now left.logs.now
    c.args.at c.line-line.result c.from.result c.args.text.now.items c.as_slice.result.now c.put_line.new.text.items
    c.in-Some.ensures.cases.0 c.requires.rising c.requires.next c.line-line.ensures c.from.ensures (c.as_slice.ensures.value ∙ c.in_ok-words.ensures) c.in_ok-put_line.ensures
