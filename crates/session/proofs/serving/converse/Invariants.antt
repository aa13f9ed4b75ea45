use Rattle.std.proofs.Common.{◌≡◌, ◌++◌, List, false}
use Rattle.line_protocol.specs.Streams.{waiting, IsOpen}
use Rattle.session.specs.Acts.{Act}
use Rattle.session.specs.Pass.{AreOf}
use Rattle.session.specs.Did.{Agrees, Did}
use Rattle.session.specs.Session.{Goes}
use Rattle.session.specs.Table.{Setup}
use Rattle.session.proofs.serving.converse.Given as goal

abbrev pub invariant-loop : goal.invariant-loop
invariant-loop g l = record {
  of : AreOf g.C.Counter.is_of g.C.Counter.account l.pass l.office;
  fits : l.feeder.over ≡ false;
  still : IsOpen (waiting l.feeder);
  talked : (o : Setup) (before : List Act) → Agrees g.C.Counter.account l.office o before l.fn.pass →
      Goes o before l.fn.client (waiting l.fn.feeder) →
      (new : List Act) × Did g.C.Counter.account g.L.Link.tells g.L.Link.faults g.L.Link.quiets g.K.Clock.gave g.B.Bell.answered g.B.Bell.tolls g.B.Bell.rings new l.fn.pass l.pass l.fn.link l.link l.fn.clock l.clock l.fn.bell l.bell
      × Goes o (before ++ new) l.client (waiting l.feeder);
}
