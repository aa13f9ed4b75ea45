use Rattle.feature_desk.specs.Sitters.{IsOf}
use Rattle.desk_bench.proofs.desks.pairs.Given as goal

abbrev pub invariant-loop-round : goal.invariant-loop-round
invariant-loop-round g l = IsOf l.pass l.desk
