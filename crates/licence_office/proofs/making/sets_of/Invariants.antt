use Rattle.std.proofs.Common.{◌≡◌, ℕ, ◌<◌, ◌≤◌, length, map, take, vec_capacity, vec_len}
use Rattle.options_machine.specs.Rules.{IsSound}
use Rattle.options_machine.specs.State.{set_at}
use Rattle.policy.specs.Pools.{rules_of}
use Rattle.licence_office.proofs.making.sets_of.Given as goal

abbrev pub invariant-loop-options : goal.invariant-loop-options
invariant-loop-options l = record {
  rules : l.rules.items ≡ map (rules_of l.pool) (take l.options-index l.sets);
  sound : (n : ℕ) → n < length l.rules.items → IsSound (set_at l.rules.items n);
  count : vec_len l.rules ≡ l.options-index;
  room : length l.sets ≤ vec_capacity l.rules;
}
