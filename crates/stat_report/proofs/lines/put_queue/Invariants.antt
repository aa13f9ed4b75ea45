use Rattle.std.proofs.Common.{◌≡◌, ◌++◌, drop}
use Rattle.stat_report.specs.Report.{queued_lines}
use Rattle.stat_report.proofs.lines.put_queue.Given as goal

-- with the lines of the parties that are left, all are written
abbrev pub invariant-loop-at : goal.invariant-loop-at
invariant-loop-at l = l.text.items ++ queued_lines l.at (drop l.at l.queue) ≡ l.fn.text.items ++ queued_lines 0 l.queue
