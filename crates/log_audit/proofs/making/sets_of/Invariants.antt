use Rattle.std.proofs.Common.{◌≡◌, ℕ, ◌<◌, length, map, take}
use Rattle.options_machine.specs.Rules.{IsSound}
use Rattle.options_machine.specs.State.{set_at}
use Rattle.policy.specs.Pools.{rules_of}
use Rattle.log_audit.proofs.making.sets_of.Given as goal

abbrev pub invariant-loop-file : goal.invariant-loop-file
invariant-loop-file l = record {
  rules : l.sets.items ≡ map (rules_of l.pool) (take l.file-index l.options);
  sound : (n : ℕ) → n < length l.sets.items → IsSound (set_at l.sets.items n);
}
