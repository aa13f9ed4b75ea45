use Rattle.std.proofs.Common.{length, subst, sym}
use Rattle.feature_lines.specs.declared.route.Found.{Found}
use Rattle.scripts.specs.PoolRuns.{run_walk}
use Rattle.scripts.specs.Walk.{IsThere}
use Rattle.scripts.proofs.Walks.{sent_there}
use Rattle.scripts.proofs.playing.answer_request.Goals as goal

pub answer_at-requires-clause-there : goal.answer_at-requires-clause-there
answer_at-requires-clause-there c =
    subst (λ (found : Found). IsThere (length c.args.runs.now) found) (sym c.in-Pool.ensures) (sent_there run_walk c.args.runs.now c.args.line.now c.args.line.now.feature)
