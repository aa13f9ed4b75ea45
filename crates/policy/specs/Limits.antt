use Rattle.std.specs.Prelude.{ℕ, ◌<◌, All, List, Option, None, Some, length, slice_get}
use Rattle.std.specs.List.{filter_map}
use Rattle.lic_types.specs.declared.client.RuleLine.{RuleLine}
use Rattle.options_machine.specs.declared.limits.Limit.{Limit}
use Rattle.policy.specs.declared.limits.PlacedLimit.{PlacedLimit}

-- a line with a number, where there is a line
abbrev pub numbered : Option RuleLine → ℕ → Option Limit
numbered None number = None
numbered (Some line) number = Some (record { line = line; number = number })

-- the line at a place with the number that is kept for it
abbrev pub limit_at : List RuleLine → PlacedLimit → Option Limit
limit_at lines m = numbered (slice_get lines m.place) m.number

-- the lines at their places, each with its number
abbrev pub limits_at : List RuleLine → List PlacedLimit → List Limit
limits_at lines limits = filter_map (limit_at lines) limits

-- there is a line at the place of each
abbrev pub HaveLines : List RuleLine → List PlacedLimit → Type 0
HaveLines lines limits = All (λ (m : PlacedLimit). m.place < length lines) limits
