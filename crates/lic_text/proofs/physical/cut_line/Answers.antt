use Rattle.lic_text.proofs.Parts.{cut_found, cut_none}
use Rattle.lic_text.proofs.physical.cut_line.Goals as goal

pub returns-then-end-bytes-clause-cut : goal.returns-then-end-bytes-clause-cut
returns-then-end-bytes-clause-cut c =
    cut_found c.args.bytes.now c.without_return.result.now c.line_end-end.result c.line_end-end.ensures.place c.if-end-bytes.true c.without_return.ensures.text

pub returns-else-end-bytes-clause-cut : goal.returns-else-end-bytes-clause-cut
returns-else-end-bytes-clause-cut c =
    cut_none c.args.bytes.now c.without_return-else-end-bytes.result.now c.line_end-end.result c.line_end-end.ensures.place c.requires c.if-end-bytes.false c.without_return-else-end-bytes.ensures.text
