use Rattle.std.proofs.Common.{drop}
use Rattle.desk_logs.specs.Gathered.{IsUnderWay}
use Rattle.desk_logs.specs.Text.{entries_from}
use Rattle.desk_logs.proofs.pools.put_entries.Given as goal

abbrev pub invariant-loop-place : goal.invariant-loop-place
invariant-loop-place g l = IsUnderWay g.O.Sink.held g.O.Sink.faults l.fn.out l.out l.fn.gathered l.gathered (entries_from l.pool l.place (drop l.place l.entries)) (entries_from l.pool 0 l.entries)
