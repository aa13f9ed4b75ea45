use Rattle.std.proofs.Common.{◌≡◌, drop, find}
use Rattle.options_machine.specs.Decide.{has_room}
use Rattle.policy.specs.Kept.{state_of}
use Rattle.policy.proofs.lists.first_with_room.Given as goal

abbrev pub invariant-loop-i : goal.invariant-loop-i
invariant-loop-i l = find (has_room l.rules (state_of l.lists) l.client) (drop l.i l.rules.reserves) ≡ find (has_room l.rules (state_of l.lists) l.client) l.rules.reserves
