use Rattle.lic_text.specs.LinesLeft.{lines_left, item_view}
use Rattle.log_audit.proofs.Lines.{fit_more, one_more}
use Rattle.log_audit.proofs.log.read_log.Goals as goal

pub loop-line-preserved : goal.loop-line-preserved
loop-line-preserved c = record {
  lines = rw c.in_ok-push_some.ensures (one_more c.args.pools c.loop-line.log.items c.in_ok-found.found (item_view c.in-Some.line) (lines_left c.next.new.self) (lines_left c.loop-line.line-iterator) _
      c.in_ok-found.ensures.line
      c.in-Some.ensures.steps
      c.loop-line.invariant.lines);
  fit = rw c.in_ok-push_some.ensures (fit_more c.args.pools c.loop-line.log.items c.in_ok-found.found c.loop-line.invariant.fit c.in_ok-found.ensures.fit);
}
