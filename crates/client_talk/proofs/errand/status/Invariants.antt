use Rattle.std.proofs.Common.{map, take}
use Rattle.client_talk.specs.Errands.{IsShown}
use Rattle.client_talk.specs.Talks.{hello_line}
use Rattle.client_talk.proofs.errand.status.Given as goal

abbrev pub invariant-loop-feature : goal.invariant-loop-feature
invariant-loop-feature g l = IsShown g.L.Link.tells l.fn.link l.link (hello_line l.client) (map (λ feature. feature.now) (take l.feature-index l.features)) l.text.items
