use Rattle.std.proofs.Common.{◌≡◌, ◌++◌, take}
use Rattle.std.specs.List.{flat_map}
use Rattle.stat_report.specs.Report.{held_line}
use Rattle.stat_report.proofs.lines.put_holders.Given as goal

-- the seats so far are written
abbrev pub invariant-loop-holder : goal.invariant-loop-holder
invariant-loop-holder l = l.text.items ≡ l.fn.text.items ++ flat_map held_line (take l.holder-index l.holders)
