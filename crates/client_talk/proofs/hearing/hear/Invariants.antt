use Rattle.std.proofs.Common.{◌≤◌, ◌+◌, ◌-◌, length}
use Rattle.line_protocol.specs.Streams.{waiting}
use Rattle.client_talk.specs.Hearing.{IsHearing}
use Rattle.client_talk.proofs.hearing.hear.Given as goal

abbrev pub invariant-loop-quiets : goal.invariant-loop-quiets
invariant-loop-quiets g l = (IsHearing g.L.Link.tells l.fn.link l.link l.feeder l.quiets) × (l.quiets ≤ 30)

abbrev pub decreases-loop-quiets : goal.decreases-loop-quiets
decreases-loop-quiets g l = (30 - l.quiets) + (1024 - length (waiting l.feeder))
