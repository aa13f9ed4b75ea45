use Rattle.std.proofs.Common.{◌≡◌, false, drop, find}
use Rattle.options_machine.specs.Rules.{applies, matches_who}
use Rattle.policy.specs.Places.{lines_at}
use Rattle.policy.proofs.chosen.first_at.Given as goal

abbrev pub invariant-loop-place : goal.invariant-loop-place
invariant-loop-place l = record {
  silent : matches_who l.groups l.passed l.client ≡ false;
  later : find (applies l.groups l.client) (lines_at l.lines (drop l.place-index l.places)) ≡ find (applies l.groups l.client) (lines_at l.lines l.places);
}
