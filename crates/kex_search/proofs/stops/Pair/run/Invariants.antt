use Rattle.std.proofs.Common.{◌≡◌}
use Rattle.kex_search.proofs.stops.Pair.run.Given as goal

abbrev pub invariant-loop-access : goal.invariant-loop-access
invariant-loop-access l = l.self.net ≡ l.fn.self.net
