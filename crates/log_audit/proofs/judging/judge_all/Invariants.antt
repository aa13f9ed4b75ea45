use Rattle.std.proofs.Common.{map, take}
use Rattle.log_audit.specs.Kept.{StandAll, sets_at}
use Rattle.log_audit.proofs.judging.judge_all.Given as goal

-- each desk stands where the entries so far leave it
abbrev pub invariant-loop-entry : goal.invariant-loop-entry
invariant-loop-entry l = StandAll (map sets_at l.fn.desks) (take l.entry-index l.log) l.desks
