use Rattle.std.proofs.Common.{◌≡◌, ◌++◌, map, take}
use Rattle.lint_advice.specs.Cuts.{at_pool}
use Rattle.lint_advice.proofs.cuts.add_cuts.Given as goal

-- the cuts so far were added
abbrev pub invariant-loop-cut : goal.invariant-loop-cut
invariant-loop-cut l = l.found.items ≡ l.fn.found.items ++ map (at_pool l.pool) (take l.cut-index l.cuts)
