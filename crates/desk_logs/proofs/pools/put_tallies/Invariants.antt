use Rattle.std.proofs.Common.{drop}
use Rattle.desk_logs.specs.Gathered.{IsUnderWay}
use Rattle.desk_logs.specs.Text.{numbered_texts, tally_of}
use Rattle.desk_logs.proofs.pools.put_tallies.Given as goal

abbrev pub invariant-loop-pool : goal.invariant-loop-pool
invariant-loop-pool g l = IsUnderWay g.O.Sink.held g.O.Sink.faults l.fn.out l.out l.fn.gathered l.gathered (numbered_texts tally_of l.pool (drop l.pool l.tallies)) (numbered_texts tally_of 0 l.tallies)
