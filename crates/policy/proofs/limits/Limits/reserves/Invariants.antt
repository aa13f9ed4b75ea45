use Rattle.std.proofs.Common.{◌≡◌, ◌++◌, drop}
use Rattle.std.specs.List.{filter_map}
use Rattle.options_machine.specs.Rules.{cut_limits, left_of, reserve_of}
use Rattle.policy.specs.Limits.{HaveLines, limits_at}
use Rattle.policy.proofs.limits.Limits.reserves.Given as goal

abbrev pub invariant-loop-place : goal.invariant-loop-place
invariant-loop-place l = record {
  cut : limits_at l.lines l.limits.items ++ cut_limits l.left (filter_map (reserve_of l.feature) (drop l.place l.lines)) ≡ cut_limits l.count (filter_map (reserve_of l.feature) l.lines);
  left : left_of l.left (filter_map (reserve_of l.feature) (drop l.place l.lines)) ≡ left_of l.count (filter_map (reserve_of l.feature) l.lines);
  there : HaveLines l.lines l.limits.items;
}
