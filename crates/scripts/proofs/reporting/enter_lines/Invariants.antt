use Rattle.std.proofs.Common.{drop, length}
use Rattle.scripts.specs.Script.{ledgers_of}
use Rattle.scripts.proofs.Reached.{IsEntered}
use Rattle.scripts.proofs.reporting.enter_lines.Given as goal

abbrev pub invariant-loop-line : goal.invariant-loop-line
invariant-loop-line l = IsEntered (length l.options) l.line-index l.licence.pools l.runs (drop l.line-index l.lines) (ledgers_of l.licence.pools l.options l.lines)
