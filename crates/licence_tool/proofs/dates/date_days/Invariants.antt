use Rattle.std.proofs.Common.{take}
use Rattle.licence_tool.specs.UsageText.{AreDated}
use Rattle.licence_tool.proofs.dates.date_days.Given as goal

-- the days so far have their dates
abbrev pub invariant-loop-sum : goal.invariant-loop-sum
invariant-loop-sum l = AreDated (take l.sum-index l.days) l.dated.items
