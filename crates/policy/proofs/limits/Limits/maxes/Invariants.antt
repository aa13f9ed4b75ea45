use Rattle.std.proofs.Common.{◌≡◌, ◌++◌, drop}
use Rattle.std.specs.List.{filter_map}
use Rattle.options_machine.specs.Rules.{max_of}
use Rattle.policy.specs.Limits.{HaveLines, limits_at}
use Rattle.policy.proofs.limits.Limits.maxes.Given as goal

abbrev pub invariant-loop-place : goal.invariant-loop-place
invariant-loop-place l = record {
  found : limits_at l.lines l.limits.items ++ filter_map (max_of l.feature) (drop l.place l.lines) ≡ filter_map (max_of l.feature) l.lines;
  there : HaveLines l.lines l.limits.items;
}
