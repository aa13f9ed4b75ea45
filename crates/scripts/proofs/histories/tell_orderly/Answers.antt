use Rattle.scripts.proofs.Sets.{all_orderly, orderly_more}
use Rattle.scripts.proofs.histories.tell_orderly.Goals as goal

pub loop-file-preserved : goal.loop-file-preserved
loop-file-preserved c =
    orderly_more c.args.options.now c.loop-file.file-index c.file-item.result c.loop-file-test.true c.file-item.is
    (record { lines_rise = c.lines.ensures.rising; within = c.lines.ensures.within }) c.loop-file.invariant

pub returns : goal.returns
returns c = all_orderly c.args.options.now c.loop-file.file-index c.loop-file-test.false c.loop-file.invariant
