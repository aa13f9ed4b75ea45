use Rattle.std.proofs.Common.{◌≡◌}
use Rattle.desk_bench.proofs.nets.pairs.Given as goal

abbrev pub invariant-loop-round : goal.invariant-loop-round
invariant-loop-round g l = l.out.table ≡ l.seats
