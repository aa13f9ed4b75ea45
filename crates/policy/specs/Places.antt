use Rattle.std.specs.Prelude.{◌≡◌, ℕ, ◌<◌, All, IsPermutation, List, length, slice_get}
use Rattle.std.specs.List.{filter_map}
use Rattle.lic_types.specs.declared.client.RuleLine.{RuleLine}
use Rattle.group_roster.specs.declared.prints.Printed.{Printed}
use Rattle.policy.specs.Passing.{grouped_of, printed_of}

-- the lines at these places, from 0
abbrev pub lines_at : List RuleLine → List ℕ → List RuleLine
lines_at lines places = filter_map (slice_get lines) places

-- there is a line at each of these places
abbrev pub AreThere : List RuleLine → List ℕ → Type 0
AreThere lines places = All (λ place. place < length lines) places

-- what is kept of the lines at these places: the places of those that name a group, and the others by the prints of what they name
pub record AreSorted (lines : List RuleLine) (places grouped : List ℕ) (printed : List Printed) : Type 0 where
  pub there : AreThere lines places
  pub in_groups : AreThere lines grouped
  pub of_groups : lines_at lines grouped ≡ grouped_of (lines_at lines places)
  pub others : IsPermutation (printed_of lines places) printed
