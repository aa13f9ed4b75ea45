-- The nets in which parties stop.
use Rattle.std.specs.Prelude.{ℕ}
use Rattle.kex_search.specs.declared.stops.Kind.{Kind}
use Rattle.kex_search.specs.declared.stops.Kind.TheVariants.{Chain, Tree, Gated}

-- how many parties the net has: behind the gate one more than there are sessions
abbrev pub parties_of : Kind → ℕ
parties_of Chain = 3
parties_of Tree = 5
parties_of Gated = 6
