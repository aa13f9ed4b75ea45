use Rattle.std.proofs.Common.{◌∙◌, ◌∷◌, ℕ, Option, None, refl, sym, subst}
use Rattle.line_protocol.specs.declared.told.Told.TheVariants as told
use Rattle.session.specs.Acts.{Look}
use Rattle.session.specs.Table.{Shows, Writes}
use Rattle.session.proofs.Doings.{did_look, did_then, did_writes}
use Rattle.session.proofs.table.show.Goals as goal

pub returns-in-None-clause-shown : goal.returns-in-None-clause-shown
returns-in-None-clause-shown g c = λ o before agrees.
    let w = c.say.ensures in (
      w.0,
      did_writes g.C.Counter.account g.L.Link.tells g.L.Link.faults g.L.Link.quiets g.K.Clock.gave g.B.Bell.answered g.B.Bell.tolls g.B.Bell.rings told.Unknown None c.say.result w.0 c.args.pass.now c.args.link.now c.say.new.link c.args.clock.now c.args.bell.now w.1 w.2 w.3,
      subst (λ (p : Option ℕ). Shows p w.0 c.say.result) (sym c.in-None.is ∙ c.find_shown.ensures.found o before agrees) w.1,
    )

pub returns-in-Some-clause-shown : goal.returns-in-Some-clause-shown
returns-in-Some-clause-shown g c = λ o before agrees.
    let q = c.glance_at-glance.ensures.shown in
    let w = c.say-in-Some.ensures in
    let written : Writes (told.Glance q.0.glance) None w.0 c.say-in-Some.result = subst (λ v. Writes (told.Glance v) None w.0 c.say-in-Some.result) q.2 w.1 in (
      Look c.in-Some.i q.0 ∷ w.0,
      did_then (did_look g.C.Counter.account g.L.Link.tells g.L.Link.faults g.L.Link.quiets g.K.Clock.gave g.B.Bell.answered g.B.Bell.tolls g.B.Bell.rings c.in-Some.i q.0 c.args.pass.now c.glance_at-glance.new.pass c.args.link.now c.args.clock.now c.args.bell.now q.1)
          (did_writes g.C.Counter.account g.L.Link.tells g.L.Link.faults g.L.Link.quiets g.K.Clock.gave g.B.Bell.answered g.B.Bell.tolls g.B.Bell.rings (told.Glance q.0.glance) None c.say-in-Some.result w.0 c.glance_at-glance.new.pass c.args.link.now c.say-in-Some.new.link c.args.clock.now c.args.bell.now written w.2 w.3),
      subst (λ (p : Option ℕ). Shows p (Look c.in-Some.i q.0 ∷ w.0) c.say-in-Some.result) (sym c.in-Some.is ∙ c.find_shown.ensures.found o before agrees) (q.0, w.0, refl, written),
    )
