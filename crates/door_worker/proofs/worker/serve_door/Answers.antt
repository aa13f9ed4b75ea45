use Rattle.std.proofs.Common.{◌∙◌, ◌++◌, ◌<◌, [], refl, subst, arith}
use Rattle.daemon_outside.specs.Doors.{most_fails}
use Rattle.session.proofs.Counts.{follows_none}
use Rattle.door_worker.proofs.Serving.{served_none, served_then, sessions_then}
use Rattle.door_worker.proofs.worker.serve_door.Goals as goal

pub loop-init : goal.loop-init
loop-init g c = record {
  of = c.requires.of;
  idle = c.requires.idle;
  fails = c.requires.fails;
  few = omega arith;
  lent = refl;
  quiets = omega arith;
  faults = omega arith;
  served = ([], tt, served_none g.C.Counter.account g.D.Door.talks g.K.Clock.gave g.B.Bell.tolls g.B.Bell.rings c.args.pass.now.items c.args.door.now c.args.door.now c.args.clock.now c.args.bell.now c.args.bell.now (follows_none g.D.Door.talks c.args.door.now) refl (omega arith));
}

pub returns-in-Some-end-clause-served : goal.returns-in-Some-end-clause-served
returns-in-Some-end-clause-served g c =
    let r = c.loop.invariant.served in
    let t = c.turn-end.ensures.served in (
      r.0 ++ t.0,
      sessions_then g.C.Counter.account c.args.office.now r.0 t.0 c.args.pass.now.items c.loop.pass.items r.2.gains r.1 t.1,
      served_then g.C.Counter.account g.D.Door.talks g.K.Clock.gave g.B.Bell.tolls g.B.Bell.rings r.0 t.0 c.args.pass.now.items c.loop.pass.items c.turn-end.new.pass.items c.args.door.now c.loop.door c.turn-end.new.door c.args.clock.now c.loop.clock c.turn-end.new.clock c.args.bell.now c.loop.bell c.turn-end.new.bell r.2 t.2,
    )

pub loop-preserved : goal.loop-preserved
loop-preserved g c =
    let r = c.loop.invariant.served in
    let t = c.turn-end.ensures.served in
    record {
      of = c.turn-end.ensures.of;
      idle = c.turn-end.ensures.idle;
      fails = c.turn-end.ensures.fails;
      few = let f = c.in_default.ensures.cause in let e = c.turn-end.ensures.fails in subst (λ n. n < most_fails) e f;
      lent = c.turn-end.ensures.lent ∙ c.loop.invariant.lent;
      quiets = let x = c.loop.invariant.quiets in let y = c.turn-end.ensures.quiets in omega arith;
      faults = let x = c.loop.invariant.faults in let y = c.turn-end.ensures.faults in omega arith;
      served = (
        r.0 ++ t.0,
        sessions_then g.C.Counter.account c.args.office.now r.0 t.0 c.args.pass.now.items c.loop.pass.items r.2.gains r.1 t.1,
        served_then g.C.Counter.account g.D.Door.talks g.K.Clock.gave g.B.Bell.tolls g.B.Bell.rings r.0 t.0 c.args.pass.now.items c.loop.pass.items c.turn-end.new.pass.items c.args.door.now c.loop.door c.turn-end.new.door c.args.clock.now c.loop.clock c.turn-end.new.clock c.args.bell.now c.loop.bell c.turn-end.new.bell r.2 t.2,
      );
    }
