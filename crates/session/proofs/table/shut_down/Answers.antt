use Rattle.std.proofs.Common.{◌++◌, Some, refl}
use Rattle.session.proofs.Doings.{did_asked, did_stopping, did_then}
use Rattle.session.proofs.table.shut_down.Goals as goal

pub returns-clause-down : goal.returns-clause-down
returns-clause-down g c = λ o before agrees.
    let b = c.ask_any.ensures.asked o before agrees in
    let w = c.say_stopping.ensures in (
      b.0 ++ w.0,
      did_then (did_asked g.C.Counter.account g.L.Link.tells g.L.Link.faults g.L.Link.quiets g.K.Clock.gave g.B.Bell.answered g.B.Bell.tolls g.B.Bell.rings b.0 c.args.pass.now c.ask_any.new.pass c.args.link.now c.args.clock.now c.ask_any.new.clock c.args.bell.now b.1)
          (did_stopping g.C.Counter.account g.L.Link.tells g.L.Link.faults g.L.Link.quiets g.K.Clock.gave g.B.Bell.answered g.B.Bell.tolls g.B.Bell.rings (Some c.say_stopping.result) w.0 c.ask_any.new.pass c.args.link.now c.say_stopping.new.link c.ask_any.new.clock c.args.bell.now c.say_stopping.new.bell w.1 w.2 w.3),
      (b.0, w.0, refl, b.2, w.1),
    )
