-- Which pool of a name a session's request means.
use Rattle.std.specs.Prelude.{◌≡◌, ℕ, ◌<◌, List, length, Option, Some, None}
use Rattle.feature_lines.specs.declared.pool.Pool.{Pool}
use Rattle.office_view.specs.View.{first_named}
use Rattle.session.specs.declared.finding.Place.{Place}
use Rattle.session.specs.declared.finding.Place.TheVariants.{Kept, First}

-- the pool at which the session is holding or queued, where there is one
abbrev pub kept_at : Place → Option ℕ
kept_at (Kept i) = Some i
kept_at (First first) = None

-- a place among these pools: one of theirs, or the first of the name
abbrev pub IsPlaceIn : List Pool → List ℕ → Place → Type 0
IsPlaceIn pools name (Kept i) = i < length pools
IsPlaceIn pools name (First first) = first ≡ first_named pools name
