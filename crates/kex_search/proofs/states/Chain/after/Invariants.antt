use Rattle.kex_search.specs.Chained.{IsOf}
use Rattle.kex_search.proofs.states.Chain.after.Given as goal

abbrev pub invariant-loop-party : goal.invariant-loop-party
invariant-loop-party l = IsOf l.fn.self.parties l.fn.self.licences l.world
