use Rattle.std.proofs.Common.{◌≡◌}
use Rattle.kex_search.proofs.stops.Pair.round.Given as goal

abbrev pub invariant-loop-party : goal.invariant-loop-party
invariant-loop-party l = l.self.net ≡ l.fn.self.net
