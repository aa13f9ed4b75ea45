use Rattle.std.proofs.Common.{◌≡◌, ◌++◌, take}
use Rattle.lint_advice.specs.Cuts.{cut_advice}
use Rattle.lint_advice.proofs.lines.put_cuts.Given as goal

-- the cuts of the line among those so far were put
abbrev pub invariant-loop-found : goal.invariant-loop-found
invariant-loop-found l = l.advice.items ≡ l.fn.advice.items ++ cut_advice (take l.found-index l.cuts) l.line
