use Rattle.std.proofs.Common.{◌≡◌}
use Rattle.trial_replay.specs.Requests.{requests_below}
use Rattle.trial_replay.proofs.event.all_requests.Given as goal

-- the requests so far
abbrev pub invariant-loop-number : goal.invariant-loop-number
invariant-loop-number l = l.requests.items ≡ requests_below l.number
