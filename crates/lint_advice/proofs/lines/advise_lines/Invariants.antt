use Rattle.std.proofs.Common.{◌≡◌, ◌+◌, ◌++◌, length, map}
use Rattle.std.specs.List.{flat_map}
use Rattle.lic_types.specs.Groups.{GroupLine}
use Rattle.lic_types.specs.declared.client.RuleLine.{RuleLine}
use Rattle.options_text.specs.Rises.{AreRising}
use Rattle.lint_advice.specs.Advice.{entry_advice}
use Rattle.lint_advice.specs.Order.{in_order}
use Rattle.lint_advice.proofs.lines.advise_lines.Given as goal

-- the advice so far and that of the lines that are left are the whole
abbrev pub invariant-loop : goal.invariant-loop
invariant-loop l = record {
  whole : l.advice.items ++ flat_map (entry_advice l.known.pools.now l.known.lines.now l.known.cuts.now) (in_order l.left.groups.now l.left.rules.now)
      ≡ l.fn.advice.items ++ flat_map (entry_advice l.known.pools.now l.known.lines.now l.known.cuts.now) (in_order l.groups l.known.lines.now);
  groups : AreRising (map (λ (g : GroupLine). g.line) l.left.groups.now);
  rules : AreRising (map (λ (r : RuleLine). r.line) l.left.rules.now);
}

abbrev pub decreases-loop : goal.decreases-loop
decreases-loop l = length l.left.groups.now + length l.left.rules.now
