use Rattle.std.proofs.Common.{ap, ◌∙◌}
use Rattle.std.proofs.Math.ListN.{set}
use Rattle.std.proofs.lemmas.Option.{slice_get-get_or}
use Rattle.scripts.specs.PoolRuns.{entered_at}
use Rattle.scripts.specs.declared.pool_run.PoolRun.{PoolRun}
use Rattle.scripts.proofs.Steps.{changed_set}
use Rattle.scripts.proofs.playing.answer_at.Goals as goal

pub returns-clause-runs : goal.returns-clause-runs
returns-clause-runs c =
    ap (λ (r : PoolRun). set c.args.runs.now c.args.at r) c.enter.ensures.entered
    ∙ changed_set (entered_at c.args.line.now) c.args.at c.args.runs.now c.index-runs-at.result c.requires.there

pub returns-clause-answer : goal.returns-clause-answer
returns-clause-answer c =
    rw (slice_get-get_or c.args.runs.now c.args.at c.index-runs-at.result c.requires.there, ← c.enter.ensures.reply)
