use Rattle.std.proofs.Common.{◌≡◌, ◌++◌, drop}
use Rattle.lint_advice.specs.Cuts.{cuts_from}
use Rattle.lint_advice.proofs.cuts.cuts_of_pools.Given as goal

-- with the cuts of the pools that are left, all are found
abbrev pub invariant-loop-at : goal.invariant-loop-at
invariant-loop-at l = l.found.items ++ cuts_from l.options l.at (drop l.at l.pools) ≡ cuts_from l.options 0 l.pools
