use Rattle.feature_desk.specs.Sitters.{IsOf}
use Rattle.desk_rows.proofs.tests.desks.waits.Given as goal

abbrev pub invariant-loop-step : goal.invariant-loop-step
invariant-loop-step g l = IsOf l.noted.sitter l.desk
