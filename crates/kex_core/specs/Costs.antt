-- How many accesses, but for reads of Q, a party makes from Out to Out.
use Rattle.std.specs.Prelude.{ℕ, ◌+◌, ◌-◌, ◌*◌, ◌==◌, ◌&&◌, nat_lt, min, List, [], ◌∷◌, if◌then◌else◌}
use Rattle.kex_core.specs.declared.place.Place.{Place}
use Rattle.kex_core.specs.declared.place.Place.TheVariants.{Out, Dec, Mark, Look, Spin, Naming, Named, Holding, Clearing, Inc, Unmark}
use Rattle.kex_core.specs.Nets.{Plan, count, on_path}
use Rattle.kex_core.specs.Worlds.{Machine, due, move}

-- the stages on p's path below j; below Exit it is the length of the path
abbrev pub rank : Plan → ℕ → ℕ → ℕ
rank net p j = count net.stages (λ i. on_path net p i && nat_lt i j)

-- the stages on p's path
abbrev pub depth : Plan → ℕ → ℕ
depth net p = rank net p net.stages

-- 1 where the access of this place is a read of Q
abbrev pub is_spin : Place → ℕ
is_spin (Spin j) = 1
is_spin Out = 0
is_spin (Dec j) = 0
is_spin (Mark j) = 0
is_spin (Look j) = 0
is_spin (Naming i) = 0
is_spin (Named s) = 0
is_spin (Holding s) = 0
is_spin (Clearing s) = 0
is_spin (Inc j) = 0
is_spin (Unmark j) = 0

-- what is counted where one comes to this place: nothing at Out
abbrev pub kept_at : Place → ℕ → ℕ
kept_at Out n = 0
kept_at (Dec j) n = n
kept_at (Mark j) n = n
kept_at (Look j) n = n
kept_at (Spin j) n = n
kept_at (Naming i) n = n
kept_at (Named s) n = n
kept_at (Holding s) n = n
kept_at (Clearing s) n = n
kept_at (Inc j) n = n
kept_at (Unmark j) n = n

-- p's accesses but for reads of Q since it was last Out, after a move of q: there were n
abbrev pub firsts_after : Plan → Machine → ℕ → ℕ → ℕ → ℕ
firsts_after net w p q n = (if q == p then kept_at ((move net w p).place p) (n + 1 - is_spin (due net p (w.place p))) else n)

-- and after a whole schedule
abbrev pub firsts : Plan → ℕ → List ℕ → Machine → ℕ → ℕ
firsts net p [] w n = n
firsts net p (q ∷ qs) w n = firsts net p qs (move net w q) (firsts_after net w p q n)

-- the bound: 3 for each stage on the path and the width while it enters and holds, 5 for each, the width and one more while it leaves
abbrev pub bound : Plan → ℕ → Place → ℕ
bound net p Out = 0
bound net p (Dec j) = 3 * depth net p + net.width
bound net p (Mark j) = 3 * depth net p + net.width
bound net p (Look j) = 3 * depth net p + net.width
bound net p (Spin j) = 3 * depth net p + net.width
bound net p (Naming i) = 3 * depth net p + net.width
bound net p (Named s) = 3 * depth net p + net.width
bound net p (Holding s) = 3 * depth net p + net.width
bound net p (Clearing s) = 5 * depth net p + net.width + 1
bound net p (Inc j) = 5 * depth net p + net.width + 1
bound net p (Unmark j) = 5 * depth net p + net.width + 1

-- what each place costs at most, of which the running words keep that their count is no more
abbrev pub cost : Plan → ℕ → Place → ℕ
cost net p Out = 0
cost net p (Dec j) = 3 * rank net p j
cost net p (Mark j) = 3 * rank net p j + 1
cost net p (Look j) = 3 * rank net p j + 2
cost net p (Spin j) = 3 * rank net p j + 3
cost net p (Naming i) = 3 * depth net p + i
cost net p (Named s) = 3 * depth net p + min (s + 1) (net.width - 1)
cost net p (Holding s) = 3 * depth net p + min (s + 1) (net.width - 1) + 1
cost net p (Clearing s) = 3 * depth net p + s + 3
cost net p (Inc j) = 5 * depth net p + net.width - 2 * rank net p j
cost net p (Unmark j) = 5 * depth net p + net.width + 1 - 2 * rank net p j
