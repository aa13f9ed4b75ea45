use Rattle.feature_desk.specs.Sitters.{IsOf}
use Rattle.desk_rows.proofs.tests.desks.check_out.Given as goal

abbrev pub invariant-loop : goal.invariant-loop
invariant-loop g l = (goal.iterator-loop g).can_next l.iterator' × (goal.iterator-loop g).is_finite l.iterator' × IsOf l.pass l.desk
