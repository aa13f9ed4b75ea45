use Rattle.std.proofs.Common.{◌≡◌, drop, find}
use Rattle.options_machine.specs.Decide.{is_reached}
use Rattle.policy.specs.Kept.{state_of}
use Rattle.policy.proofs.lists.reached.Given as goal

abbrev pub invariant-loop-i : goal.invariant-loop-i
invariant-loop-i l = find (is_reached l.rules (state_of l.lists) l.client) (drop l.i l.rules.maxes) ≡ find (is_reached l.rules (state_of l.lists) l.client) l.rules.maxes
