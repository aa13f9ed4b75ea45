use Rattle.std.proofs.Common.{◌≡◌, ◌++◌, take}
use Rattle.std.specs.List.{flat_map}
use Rattle.stat_report.specs.Report.{lingering_line}
use Rattle.stat_report.proofs.lines.put_lingerers.Given as goal

-- the seats so far are written
abbrev pub invariant-loop-at : goal.invariant-loop-at
invariant-loop-at l = l.text.items ≡ l.fn.text.items ++ flat_map lingering_line (take l.at l.book.state.lingering)
