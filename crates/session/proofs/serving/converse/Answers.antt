use Rattle.std.proofs.Common.{◌++◌, [], refl, sym, subst, append_assoc}
use Rattle.std.proofs.lemmas.List.{append-nil}
use Rattle.line_protocol.specs.Streams.{waiting}
use Rattle.session.specs.Session.{Ends, Goes}
use Rattle.session.proofs.Doings.{did_none, did_then}
use Rattle.session.proofs.Standing.{agrees_then}
use Rattle.session.proofs.serving.converse.Goals as goal

pub loop-init : goal.loop-init
loop-init g c = record {
  of = c.requires.of;
  fits = c.requires.fits;
  still = c.requires.still;
  talked = λ o before agrees goes. (
    [],
    did_none g.C.Counter.account g.L.Link.tells g.L.Link.faults g.L.Link.quiets g.K.Clock.gave g.B.Bell.answered g.B.Bell.tolls g.B.Bell.rings c.args.pass.now c.args.link.now c.args.clock.now c.args.bell.now,
    subst (λ acts. Goes o acts c.args.client.now (waiting c.args.feeder.now)) (sym (append-nil before)) goes,
  );
}

pub returns-in-Some-end-clause-ended : goal.returns-in-Some-end-clause-ended
returns-in-Some-end-clause-ended g c = λ o before agrees goes.
    let r = c.loop.invariant.talked o before agrees goes in
    let t = c.in-Some-end.ensures.turned o (before ++ r.0) (agrees_then g.C.Counter.account c.args.office.now o before r.0 c.args.pass.now c.loop.pass agrees r.1.pass) r.2 in (
      r.0 ++ t.0,
      did_then r.1 t.1,
      subst (λ acts. Ends o acts c.turn-end.new.client c.in-Some-end.end) (append_assoc before r.0 t.0) t.2,
    )

pub loop-preserved : goal.loop-preserved
loop-preserved g c = record {
  of = c.turn-end.ensures.of;
  fits = c.in_default.ensures.fits refl;
  still = c.in_default.ensures.still refl;
  talked = λ o before agrees goes.
      let r = c.loop.invariant.talked o before agrees goes in
      let t = c.in_default.ensures.turned o (before ++ r.0) (agrees_then g.C.Counter.account c.args.office.now o before r.0 c.args.pass.now c.loop.pass agrees r.1.pass) r.2 in (
        r.0 ++ t.0,
        did_then r.1 t.1,
        subst (λ acts. Goes o acts c.turn-end.new.client (waiting c.turn-end.new.feeder)) (append_assoc before r.0 t.0) t.2.0,
      );
}
