use Rattle.scripts.specs.PoolRuns.{entered_at}
use Rattle.scripts.proofs.Steps.{changed_more, next_can_take}
use Rattle.scripts.proofs.playing.enter_each.Goals as goal

pub enter-requires-clause-parties : goal.enter-requires-clause-parties
enter-requires-clause-parties c =
    (next_can_take c.args.sets c.args.line.now c.loop-run.run-index c.args.runs.now c.loop-run.runs c.run-item.result c.requires.fits c.requires.ready c.loop-run-test.true c.loop-run.invariant).parties

pub enter-requires-clause-fits : goal.enter-requires-clause-fits
enter-requires-clause-fits c =
    (next_can_take c.args.sets c.args.line.now c.loop-run.run-index c.args.runs.now c.loop-run.runs c.run-item.result c.requires.fits c.requires.ready c.loop-run-test.true c.loop-run.invariant).fits

pub enter-requires-clause-few : goal.enter-requires-clause-few
enter-requires-clause-few c =
    (next_can_take c.args.sets c.args.line.now c.loop-run.run-index c.args.runs.now c.loop-run.runs c.run-item.result c.requires.fits c.requires.ready c.loop-run-test.true c.loop-run.invariant).few

pub loop-run-preserved : goal.loop-run-preserved
loop-run-preserved c =
    changed_more (entered_at c.args.line.now) c.loop-run.run-index c.args.runs.now c.loop-run.runs c.run-item.result c.enter.new.self c.loop-run-test.true c.loop-run.invariant c.enter.ensures.entered
