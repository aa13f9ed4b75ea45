use Rattle.std.proofs.Common.{◌∷◌, [], refl, subst, arith}
use Rattle.std.proofs.lemmas.List.{append-nil}
use Rattle.session.specs.Acts.{talk_of}
use Rattle.door_worker.proofs.Serving.{counted_down, served_none, served_one}
use Rattle.door_worker.proofs.worker.turn.Goals as goal

pub returns-in-Quiet-clause-served : goal.returns-in-Quiet-clause-served
returns-in-Quiet-clause-served g c = ([], tt, served_none g.C.Counter.account g.D.Door.talks g.K.Clock.gave g.B.Bell.tolls g.B.Bell.rings c.args.pass.now.items c.args.door.now c.accept.new.self c.args.clock.now c.args.bell.now c.rung.new.self c.accept.ensures.told c.rung.ensures.rings c.rung.ensures.tolls.never_falls)

pub returns-then-fails-ge-FAIL_LIMIT-clause-served : goal.returns-then-fails-ge-FAIL_LIMIT-clause-served
returns-then-fails-ge-FAIL_LIMIT-clause-served g c = ([], tt, served_none g.C.Counter.account g.D.Door.talks g.K.Clock.gave g.B.Bell.tolls g.B.Bell.rings c.args.pass.now.items c.args.door.now c.accept.new.self c.args.clock.now c.args.bell.now c.args.bell.now c.accept.ensures.told refl (omega arith))

pub returns-else-fails-ge-FAIL_LIMIT-clause-served : goal.returns-else-fails-ge-FAIL_LIMIT-clause-served
returns-else-fails-ge-FAIL_LIMIT-clause-served g c = ([], tt, served_none g.C.Counter.account g.D.Door.talks g.K.Clock.gave g.B.Bell.tolls g.B.Bell.rings c.args.pass.now.items c.args.door.now c.accept.new.self c.args.clock.now c.args.bell.now c.rung-in-Failed.new.self c.accept.ensures.told c.rung-in-Failed.ensures.rings c.rung-in-Failed.ensures.tolls.never_falls)

pub returns-in-Link-clause-served : goal.returns-in-Link-clause-served
returns-in-Link-clause-served g c =
    let s = c.serve_session.ensures.session in
    let cause = c.serve_session.ensures.cause in
    let t = s.3.link.told [] c.in-Link.ensures.fresh in (
      record { acts = s.0; end = c.serve_session.result } ∷ [],
      (record { session = s.1; gives_back = s.2 }, tt),
      served_one g.C.Counter.account g.D.Door.talks g.K.Clock.gave g.B.Bell.tolls g.B.Bell.rings s.0 c.serve_session.result c.args.pass.now.items c.serve_session.new.pass.items c.args.door.now c.done.new.self c.args.clock.now c.serve_session.new.clock c.args.bell.now c.serve_session.new.bell
          s.3.pass (λ told h. c.done.ensures.told told (talk_of s.0) (subst (λ l. g.D.Door.talks c.accept.new.self l) (append-nil told) (c.accept.ensures.told told h)) t) s.3.clock
          (counted_down c.serve_session.result _ _ s.3.bell.ring.never_falls cause.rung cause.unrung) s.3.bell.toll.never_falls,
    )
