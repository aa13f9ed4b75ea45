use Rattle.std.proofs.Common.{List}
use Rattle.session.specs.Acts.{Act}
use Rattle.session.specs.Asks.{AsksUpTo, LeavesIdle}
use Rattle.session.specs.Did.{Agrees}
use Rattle.session.specs.Pass.{AreOf}
use Rattle.session.specs.Table.{Setup}
use Rattle.session.proofs.asking.ask_each.Given as goal

abbrev pub invariant-loop-i : goal.invariant-loop-i
invariant-loop-i g l = record {
  of : AreOf g.C.Counter.is_of g.C.Counter.account l.pass l.office;
  idle : LeavesIdle g.C.Counter.account l.whom l.kind l.pass l.i;
  asked : (o : Setup) (before : List Act) → Agrees g.C.Counter.account l.office o before l.fn.pass →
      (new : List Act) × AsksUpTo g.C.Counter.account g.K.Clock.gave o l.client l.whom l.kind before l.i l.fn.pass l.pass l.fn.clock l.clock new;
}
