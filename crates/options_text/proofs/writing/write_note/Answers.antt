use Rattle.std.proofs.Common.{refl}
use Rattle.options_text.proofs.Merges.{note_written}
use Rattle.options_text.proofs.writing.write_note.Goals as goal

pub returns : goal.returns
returns c =
    let left = c.args.left.now in
    note_written left.groups.now left.lines.now left.notes.now c.in-Some.note.now c.in-Some.notes.now left.logs.now c.in-Some-split_first.log.now c.in-Some-split_first.logs.now
    c.args.at c.in-Some.note.now.line c.from.result c.args.text.now.items c.log_name.result.now c.put_line.new.text.items
    c.in-Some.ensures.cases.0 c.in-Some-split_first.ensures.cases.0 c.requires.rising c.requires.next refl c.from.ensures c.log_name.ensures c.in_ok-put_line.ensures
