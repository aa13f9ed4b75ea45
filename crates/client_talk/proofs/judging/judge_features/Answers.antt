use Rattle.std.proofs.Common.{ℕ, List, [], Bor, get_or}
use Rattle.std.proofs.lemmas.Result.{err_from_is_err_and}
use Rattle.client_talk.specs.Talks.{glance_line}
use Rattle.client_talk.specs.declared.want.Want.TheVariants.{Numbers}
use Rattle.client_talk.proofs.Judgings.{features_fault, features_more}
use Rattle.client_talk.proofs.judging.judge_features.Goals as goal

abbrev nothing : Bor (List ℕ)
nothing = record { ref_ptr = (0, 0); now = [] }

pub returns-in_err-judge_made : goal.returns-in_err-judge_made
returns-in_err-judge_made c =
    let line = glance_line (get_or c.args.features.now c.loop-feature.feature-index nothing).now in
    let p = err_from_is_err_and c.from_residual.result c.from_residual.ensures.1 in
    rw (p.1, p.2)
    (features_fault c.args.features.now c.loop-feature.feature-index nothing c.in_err-judge_made.field-0.0 c.loop-feature-test.true c.loop-feature.invariant (c.in_err-judge_made.ensures line Numbers c.glance.ensures))

pub loop-feature-preserved : goal.loop-feature-preserved
loop-feature-preserved c =
    let line = glance_line (get_or c.args.features.now c.loop-feature.feature-index nothing).now in
    features_more c.args.features.now c.loop-feature.feature-index nothing c.loop-feature-test.true c.loop-feature.invariant (c.in_ok-judge_made.ensures line Numbers c.glance.ensures)
