use Rattle.std.proofs.Common.{◌≡◌, ◌++◌, drop}
use Rattle.policy.specs.Passing.{grouped_of, printed_of}
use Rattle.policy.specs.Places.{AreThere, lines_at}
use Rattle.policy.proofs.chosen.sorted.Given as goal

abbrev pub invariant-loop-place : goal.invariant-loop-place
invariant-loop-place l = record {
  in_groups : AreThere l.lines l.grouped.items;
  of_groups : lines_at l.lines l.grouped.items ++ grouped_of (lines_at l.lines (drop l.place-index l.places)) ≡ grouped_of (lines_at l.lines l.places);
  others : l.printed.items ++ printed_of l.lines (drop l.place-index l.places) ≡ printed_of l.lines l.places;
}
