use Rattle.std.proofs.Common.{◌≡◌, ◌++◌, drop}
use Rattle.std.specs.List.{filter_map}
use Rattle.options_machine.specs.Rules.{cut_at}
use Rattle.policy.proofs.limits.Limits.cuts.Given as goal

abbrev pub invariant-loop-i : goal.invariant-loop-i
invariant-loop-i l = l.cuts.items ++ filter_map cut_at (drop l.i l.self) ≡ filter_map cut_at l.self
