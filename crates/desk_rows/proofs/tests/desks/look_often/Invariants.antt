use Rattle.feature_desk.specs.Sitters.{IsOf}
use Rattle.desk_rows.proofs.tests.desks.look_often.Given as goal

abbrev pub invariant-loop-moment : goal.invariant-loop-moment
invariant-loop-moment g l = IsOf l.pass l.desk
