use Rattle.std.proofs.Common.{drop}
use Rattle.desk_logs.specs.Gathered.{IsUnderWay}
use Rattle.desk_logs.specs.Text.{numbered_texts, log_of}
use Rattle.desk_logs.proofs.pools.put_logs.Given as goal

abbrev pub invariant-loop-pool : goal.invariant-loop-pool
invariant-loop-pool g l = IsUnderWay g.O.Sink.held g.O.Sink.faults l.fn.out l.out l.fn.gathered l.gathered (numbered_texts log_of l.pool (drop l.pool l.logs)) (numbered_texts log_of 0 l.logs)
