use Rattle.std.proofs.Common.{◌≡◌, map, take, Ok}
use Rattle.client_talk.specs.Judging.{lines_verdict}
use Rattle.client_talk.specs.Talks.{glance_line}
use Rattle.client_talk.proofs.judging.judge_features.Given as goal

abbrev pub invariant-loop-feature : goal.invariant-loop-feature
invariant-loop-feature l = lines_verdict (map glance_line (map (λ feature. feature.now) (take l.feature-index l.features))) ≡ Ok tt
