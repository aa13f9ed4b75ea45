use Rattle.std.proofs.Common.{sym, ◌∙◌, arith}
use Rattle.stat_report.proofs.Lingering.{none_before, one_more}
use Rattle.stat_report.proofs.lines.put_lingerers.Goals as goal
use Rattle.stat_report.proofs.lines.put_lingerers.Goals.{in-Some+in_ok-put_lingerer, in_default}

pub loop-at-preserved : goal.loop-at-preserved
loop-at-preserved c =
    elim c.match-linger_at.branch [
      | in-Some+in_ok-put_lingerer w ↦ rw w.text-is
          (one_more c.args.book.now.state.lingering c.loop-at.at w.in-Some.entry c.args.text.now.items c.loop-at.text.items w.put_lingerer.new.text.items
          (sym c.linger_at.ensures ∙ w.in-Some.is) c.loop-at.invariant w.in_ok-put_lingerer.ensures)
      | in_default w ↦ absurd (none_before c.args.book.now.state.lingering c.loop-at.at (omega (arith, c.loop-at-test.true, c.lingering-at-end.ensures)) (sym c.linger_at.ensures ∙ w.in_default.is))
    ]
