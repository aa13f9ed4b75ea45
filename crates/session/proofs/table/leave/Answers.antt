use Rattle.std.proofs.Common.{◌++◌, Some, refl}
use Rattle.line_protocol.specs.declared.told.Told.TheVariants as told
use Rattle.session.specs.declared.end.SessionEnd.TheVariants as ends
use Rattle.session.proofs.Doings.{did_asked, did_then, did_writes}
use Rattle.session.proofs.table.leave.Goals as goal

pub returns-clause-left : goal.returns-clause-left
returns-clause-left g c = λ o before agrees.
    let b = c.ask_any.ensures.asked o before agrees in
    let w = c.say.ensures in (
      b.0 ++ w.0,
      did_then (did_asked g.C.Counter.account g.L.Link.tells g.L.Link.faults g.L.Link.quiets g.K.Clock.gave g.B.Bell.answered g.B.Bell.tolls g.B.Bell.rings b.0 c.args.pass.now c.ask_any.new.pass c.args.link.now c.args.clock.now c.ask_any.new.clock c.args.bell.now b.1)
          (did_writes g.C.Counter.account g.L.Link.tells g.L.Link.faults g.L.Link.quiets g.K.Clock.gave g.B.Bell.answered g.B.Bell.tolls g.B.Bell.rings told.Bye (Some ends.Quit) c.say.result w.0 c.ask_any.new.pass c.args.link.now c.say.new.link c.ask_any.new.clock c.args.bell.now w.1 w.2 w.3),
      (b.0, w.0, refl, b.2, w.1),
    )
