use Rattle.std.proofs.Common.{◌≡◌, ◌++◌, drop}
use Rattle.licence_tool.specs.UsageText.{usage_lines}
use Rattle.licence_tool.proofs.usage_text.put_pools.Given as goal

-- with the lines of the pools that are left, all are written
abbrev pub invariant-loop-at : goal.invariant-loop-at
invariant-loop-at l = l.text.items ++ usage_lines l.at (drop l.at l.pools) l.days ≡ l.fn.text.items ++ usage_lines 0 l.pools l.days
