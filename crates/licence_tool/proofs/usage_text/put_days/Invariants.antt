use Rattle.std.proofs.Common.{◌≡◌, ◌++◌, take}
use Rattle.std.specs.List.{flat_map}
use Rattle.licence_tool.specs.UsageText.{own_line}
use Rattle.licence_tool.proofs.usage_text.put_days.Given as goal

-- the days so far are written
abbrev pub invariant-loop-day : goal.invariant-loop-day
invariant-loop-day l = l.text.items ≡ l.fn.text.items ++ flat_map (own_line l.pool) (take l.day-index l.days)
