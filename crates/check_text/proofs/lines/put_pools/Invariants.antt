use Rattle.std.proofs.Common.{◌≡◌, ◌++◌, drop}
use Rattle.check_text.specs.Check.{pool_lines}
use Rattle.check_text.proofs.lines.put_pools.Given as goal

-- with the lines of the pools that are left, all are written
abbrev pub invariant-loop-at : goal.invariant-loop-at
invariant-loop-at l = l.text.items ++ pool_lines l.at (drop l.at l.pools) ≡ l.fn.text.items ++ pool_lines 0 l.pools
