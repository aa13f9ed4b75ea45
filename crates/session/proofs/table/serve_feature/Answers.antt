use Rattle.std.proofs.Common.{◌≡◌, ◌∙◌, ◌∷◌, ℕ, Option, None, refl, sym, subst, length, ◌<◌, ◌%◌, ◌^◌}
use Rattle.feature_lines.specs.declared.route.Found.{Found}
use Rattle.line_protocol.specs.declared.told.Told.{Told}
use Rattle.line_protocol.specs.declared.told.Told.TheVariants as told
use Rattle.session.specs.Acts.{Moment, Enter}
use Rattle.options_machine.specs.Run.{IsBelow}
use Rattle.session.specs.Table.{Served, Writes, reply_to, seat_in}
use Rattle.session.proofs.Doings.{did_enter, did_moment, did_then, did_writes}
use Rattle.session.proofs.table.serve_feature.Goals as goal

pub ask_at-answered-requires : goal.ask_at-answered-requires
ask_at-answered-requires g c = record {
  of = c.requires.of;
  within = subst (λ n. c.in-Pool.i < n) (sym c.requires.of.long) c.in-Pool.ensures.there;
  fits = subst (λ (asked : Option ℕ). IsBelow asked c.args.office.now.sets) (sym c.requires.fits) tt;
}

pub returns-in-Unknown-clause-served : goal.returns-in-Unknown-clause-served
returns-in-Unknown-clause-served g c = λ o before agrees.
    let w = c.say.ensures in (
      Moment c.now-at.result ∷ w.0,
      did_then (did_moment g.C.Counter.account g.L.Link.tells g.L.Link.faults g.L.Link.quiets g.K.Clock.gave g.B.Bell.answered g.B.Bell.tolls g.B.Bell.rings c.now-at.result c.args.pass.now c.args.link.now c.args.clock.now c.now-at.new.self c.args.bell.now c.now-at.ensures)
          (did_writes g.C.Counter.account g.L.Link.tells g.L.Link.faults g.L.Link.quiets g.K.Clock.gave g.B.Bell.answered g.B.Bell.tolls g.B.Bell.rings told.Unknown None c.say.result w.0 c.args.pass.now c.args.link.now c.say.new.link c.now-at.new.self c.args.bell.now w.1 w.2 w.3),
      (
        c.now-at.result,
        w.0,
        refl,
        subst (λ (p : Found). Served c.args.client.now c.args.asked.now.kind c.now-at.result p w.0 c.say.result) (sym c.in-Unknown.is ∙ c.find.ensures.found o before agrees) w.1,
      ),
    )

pub returns-in-Expired-clause-served : goal.returns-in-Expired-clause-served
returns-in-Expired-clause-served g c = λ o before agrees.
    let w = c.say-in-Expired.ensures in (
      Moment c.now-at.result ∷ w.0,
      did_then (did_moment g.C.Counter.account g.L.Link.tells g.L.Link.faults g.L.Link.quiets g.K.Clock.gave g.B.Bell.answered g.B.Bell.tolls g.B.Bell.rings c.now-at.result c.args.pass.now c.args.link.now c.args.clock.now c.now-at.new.self c.args.bell.now c.now-at.ensures)
          (did_writes g.C.Counter.account g.L.Link.tells g.L.Link.faults g.L.Link.quiets g.K.Clock.gave g.B.Bell.answered g.B.Bell.tolls g.B.Bell.rings (told.Expired c.in-Expired.day) None c.say-in-Expired.result w.0 c.args.pass.now c.args.link.now c.say-in-Expired.new.link c.now-at.new.self c.args.bell.now w.1 w.2 w.3),
      (
        c.now-at.result,
        w.0,
        refl,
        subst (λ (p : Found). Served c.args.client.now c.args.asked.now.kind c.now-at.result p w.0 c.say-in-Expired.result) (sym c.in-Expired.is ∙ c.find.ensures.found o before agrees) w.1,
      ),
    )

told_is : (r r' : Rattle.options_machine.specs.declared.reply.Reply.Reply) (s s' : Option ℕ) (p p' : ℕ) → r ≡ r' → s ≡ s' → p ≡ p' → ◌≡◌ {A = Told} (told.Desk r s p) (told.Desk r' s' p')
told_is r r' s s' p p' e f h = cc

pub returns-in-Pool-clause-served : goal.returns-in-Pool-clause-served
returns-in-Pool-clause-served g c = λ o before agrees.
    let q = c.ask_at-answered.ensures.asked in
    let w = c.say-in-Pool.ensures in
    let r = c.ask_at-answered.result in
    let same : ◌≡◌ {A = Told} (told.Desk r.reply r.seat r.place) (reply_to q.0) = told_is r.reply q.0.entry.reply r.seat (seat_in q.0.seats) r.place (length q.0.before % 2 ^ 64) q.3.reply q.3.seat q.3.place in
    let written : Writes (reply_to q.0) None w.0 c.say-in-Pool.result = subst (λ (t : Told). Writes t None w.0 c.say-in-Pool.result) same w.1 in (
      Moment c.now-at.result ∷ Enter c.in-Pool.i q.0 ∷ w.0,
      did_then (did_moment g.C.Counter.account g.L.Link.tells g.L.Link.faults g.L.Link.quiets g.K.Clock.gave g.B.Bell.answered g.B.Bell.tolls g.B.Bell.rings c.now-at.result c.args.pass.now c.args.link.now c.args.clock.now c.now-at.new.self c.args.bell.now c.now-at.ensures)
          (did_then (did_enter g.C.Counter.account g.L.Link.tells g.L.Link.faults g.L.Link.quiets g.K.Clock.gave g.B.Bell.answered g.B.Bell.tolls g.B.Bell.rings c.in-Pool.i q.0 c.args.pass.now c.ask_at-answered.new.pass c.args.link.now c.now-at.new.self c.args.bell.now q.1)
          (did_writes g.C.Counter.account g.L.Link.tells g.L.Link.faults g.L.Link.quiets g.K.Clock.gave g.B.Bell.answered g.B.Bell.tolls g.B.Bell.rings (reply_to q.0) None c.say-in-Pool.result w.0 c.ask_at-answered.new.pass c.args.link.now c.say-in-Pool.new.link c.now-at.new.self c.args.bell.now written w.2 w.3)),
      (
        c.now-at.result,
        Enter c.in-Pool.i q.0 ∷ w.0,
        refl,
        subst (λ (p : Found). Served c.args.client.now c.args.asked.now.kind c.now-at.result p (Enter c.in-Pool.i q.0 ∷ w.0) c.say-in-Pool.result) (sym c.in-Pool.is ∙ c.find.ensures.found o before agrees)
            (q.0, w.0, refl, q.2, written),
      ),
    )
