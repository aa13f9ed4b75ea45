use Rattle.std.proofs.Common.{◌≡◌, ◌++◌, drop, filter}
use Rattle.policy.specs.Barring.{bars}
use Rattle.policy.specs.Places.{AreThere, lines_at}
use Rattle.policy.proofs.chosen.places_of.Given as goal

abbrev pub invariant-loop-place : goal.invariant-loop-place
invariant-loop-place l = record {
  found : lines_at l.lines l.places.items ++ filter (bars l.barring l.feature) (drop l.place l.lines) ≡ filter (bars l.barring l.feature) l.lines;
  there : AreThere l.lines l.places.items;
}
