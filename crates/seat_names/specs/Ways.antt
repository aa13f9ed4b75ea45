-- Several accesses, one after another.
use Rattle.std.specs.Prelude.{◌≡◌, ℕ, ◌+◌, ◌-◌, ◌*◌, ◌==◌, min, if◌then◌else◌, List, [], ◌∷◌}
use Rattle.kex_core.specs.declared.place.Place.{Place}
use Rattle.kex_core.specs.declared.place.Place.TheVariants.{Out, Dec, Mark, Look, Spin, Naming, Named, Holding, Clearing, Inc, Unmark}
use Rattle.kex_core.specs.Nets.{Plan}
use Rattle.kex_core.specs.Costs.{rank, depth}
use Rattle.kex_words.specs.Passes.{Pass}
use Rattle.kex_words.specs.Moves.{Moved}

-- from p, one access after another leads to each of these passes in turn, and q is the last of them
abbrev pub Leads : Pass → List Pass → Pass → Type 0
Leads p [] q = p ≡ q
Leads p (r ∷ rs) q = Moved p r × Leads r rs q

-- how many tests lead from this place to the number s, of m numbers: the last number is not tested
abbrev pub tests_at : ℕ → ℕ → Place → ℕ
tests_at m s (Naming i) = min (s + 1) (m - 1) - i
tests_at m s Out = 0
tests_at m s (Dec j) = 0
tests_at m s (Mark j) = 0
tests_at m s (Look j) = 0
tests_at m s (Spin j) = 0
tests_at m s (Named i) = 0
tests_at m s (Holding i) = 0
tests_at m s (Clearing i) = 0
tests_at m s (Inc j) = 0
tests_at m s (Unmark j) = 0

-- how many accesses lead p from this place back to Out: the card, the bit where the number has one, and two for each stage on the way
abbrev pub back_at : Plan → ℕ → Place → ℕ
back_at net p (Holding s) = (if s + 1 == net.width then 1 else 2) + 2 * depth net p
back_at net p (Clearing s) = 1 + 2 * depth net p
back_at net p (Inc j) = 2 + 2 * rank net p j
back_at net p (Unmark j) = 1 + 2 * rank net p j
back_at net p Out = 0
back_at net p (Dec j) = 0
back_at net p (Mark j) = 0
back_at net p (Look j) = 0
back_at net p (Spin j) = 0
back_at net p (Naming i) = 0
back_at net p (Named s) = 0
