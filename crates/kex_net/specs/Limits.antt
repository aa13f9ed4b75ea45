-- How many accesses but reads of spin words a party has made at most where it stands, with at most d stages on its path and the width m.
use Rattle.std.specs.Prelude.{ℕ, ◌+◌, ◌*◌}
use Rattle.kex_core.specs.declared.place.Place.{Place}
use Rattle.kex_core.specs.declared.place.Place.TheVariants.{Out, Dec, Mark, Look, Spin, Naming, Named, Holding, Clearing, Inc, Unmark}

-- up to holding 3d + m, and while it leaves 5d + m + 1
abbrev pub limit : ℕ → ℕ → Place → ℕ
limit d m Out = 0
limit d m (Dec j) = 3 * d + m
limit d m (Mark j) = 3 * d + m
limit d m (Look j) = 3 * d + m
limit d m (Spin j) = 3 * d + m
limit d m (Naming i) = 3 * d + m
limit d m (Named s) = 3 * d + m
limit d m (Holding s) = 3 * d + m
limit d m (Clearing s) = 5 * d + m + 1
limit d m (Inc j) = 5 * d + m + 1
limit d m (Unmark j) = 5 * d + m + 1
