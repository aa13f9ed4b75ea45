use Rattle.std.proofs.Common.{◌≡◌, ◌++◌, take}
use Rattle.std.specs.List.{flat_map}
use Rattle.check_text.specs.Check.{cut_line}
use Rattle.check_text.proofs.lines.put_cuts.Given as goal

-- the cuts so far are written
abbrev pub invariant-loop-cut : goal.invariant-loop-cut
invariant-loop-cut l = l.text.items ≡ l.fn.text.items ++ flat_map (cut_line l.at) (take l.cut-index l.cuts)
