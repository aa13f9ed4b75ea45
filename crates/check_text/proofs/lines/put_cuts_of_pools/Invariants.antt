use Rattle.std.proofs.Common.{◌≡◌, ◌++◌, drop}
use Rattle.check_text.specs.Check.{cut_lines}
use Rattle.check_text.proofs.lines.put_cuts_of_pools.Given as goal

-- with the cuts of the pools that are left, all are written
abbrev pub invariant-loop-at : goal.invariant-loop-at
invariant-loop-at l = l.text.items ++ cut_lines l.options l.at (drop l.at l.pools) ≡ l.fn.text.items ++ cut_lines l.options 0 l.pools
