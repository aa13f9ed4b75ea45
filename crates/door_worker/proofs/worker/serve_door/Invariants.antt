use Rattle.std.proofs.Common.{◌≡◌, ◌<◌, ◌≤◌, List}
use Rattle.daemon_outside.specs.Doors.{most_fails}
use Rattle.session.specs.Pass.{AreIdle, AreOf}
use Rattle.session.specs.Session.{setup_of}
use Rattle.door_worker.specs.Visits.{AreSessions, Served, Visit}
use Rattle.door_worker.proofs.worker.serve_door.Given as goal

abbrev pub invariant-loop : goal.invariant-loop
invariant-loop g l = record {
  of : AreOf g.C.Counter.is_of g.C.Counter.account l.pass.items l.office;
  idle : AreIdle g.C.Counter.account l.pass.items;
  fails : g.D.Door.fails l.door ≡ l.fails;
  few : l.fails < most_fails;
  lent : g.D.Door.lent l.door ≡ g.D.Door.lent l.fn.door;
  quiets : g.D.Door.quiets l.fn.door ≤ g.D.Door.quiets l.door;
  faults : g.D.Door.faults l.fn.door ≤ g.D.Door.faults l.door;
  served : (visits : List Visit) × AreSessions (setup_of g.C.Counter.account l.office l.fn.pass.items) visits
      × Served g.C.Counter.account g.D.Door.talks g.K.Clock.gave g.B.Bell.tolls g.B.Bell.rings visits l.fn.pass.items l.pass.items l.fn.door l.door l.fn.clock l.clock l.fn.bell l.bell;
}
