use Rattle.std.proofs.Common.{◌++◌, ◌∷◌, [], List, ℕ, Option, true, false, sym, subst, take, append_assoc}
use Rattle.lic_types.specs.declared.client.Client.{Client}
use Rattle.options_machine.specs.declared.reply.Kind.TheVariants as kind
use Rattle.line_protocol.specs.Streams.{waiting}
use Rattle.session_outside.specs.Talk.{Heard, Silence, Ended, ReadFault}
use Rattle.session.specs.Acts.{Act, Tell, Hear}
use Rattle.session.specs.Session.{Ends, Goes, Leads, breaks, closes, hears, looks, stops}
use Rattle.session.specs.Table.{AsksAny}
use Rattle.session.specs.declared.asked.Whom.TheVariants.{Holding}
use Rattle.session.specs.declared.end.SessionEnd.{SessionEnd}
use Rattle.session.proofs.Doings.{did_asked, did_heard, did_quiet, did_then}
use Rattle.session.proofs.Standing.{agrees_then}
use Rattle.session.proofs.serving.turn.Goals as goal

pub returns-then-rung-clause-turned : goal.returns-then-rung-clause-turned
returns-then-rung-clause-turned g c = λ o before agrees goes. (
  Tell Silence ∷ Hear true ∷ [],
  did_quiet g.C.Counter.account g.L.Link.tells g.L.Link.faults g.L.Link.quiets g.K.Clock.gave g.B.Bell.answered g.B.Bell.tolls g.B.Bell.rings true c.args.pass.now c.args.link.now c.read.new.self c.args.clock.now c.args.bell.now c.rung.new.self c.in-Quiet.ensures.told c.in-Quiet.ensures.faults c.in-Quiet.ensures.quiets c.if-rung.ensures.told c.if-rung.ensures.tolls c.if-rung.ensures.rings,
  stops goes c.requires.still,
)

pub returns-in-Bytes-clause-turned : goal.returns-in-Bytes-clause-turned
returns-in-Bytes-clause-turned g c = λ o before agrees goes.
    let p : List ℕ = take c.in-Bytes.len c.read.new.buffer in
    let d = did_heard g.C.Counter.account g.L.Link.tells g.L.Link.faults g.L.Link.quiets g.K.Clock.gave g.B.Bell.answered g.B.Bell.tolls g.B.Bell.rings (Heard p) c.args.pass.now c.args.link.now c.read.new.self c.args.clock.now c.args.bell.now c.in-Bytes.ensures.told c.in-Bytes.ensures.faults c.in-Bytes.ensures.quiets in
    let a = c.hear.ensures.heard o (before ++ Tell (Heard p) ∷ []) (agrees_then g.C.Counter.account c.args.office.now o before (Tell (Heard p) ∷ []) c.args.pass.now c.args.pass.now agrees d.pass) (hears p goes c.requires.still) in (
      Tell (Heard p) ∷ a.0,
      did_then d a.1,
      subst (λ acts. Leads o acts c.hear.new.client (waiting c.hear.new.feeder) c.hear.result) (append_assoc before (Tell (Heard p) ∷ []) a.0) a.2,
    )

pub returns-in-End-clause-turned : goal.returns-in-End-clause-turned
returns-in-End-clause-turned g c = λ o before agrees goes. (
  Tell Ended ∷ [],
  did_heard g.C.Counter.account g.L.Link.tells g.L.Link.faults g.L.Link.quiets g.K.Clock.gave g.B.Bell.answered g.B.Bell.tolls g.B.Bell.rings Ended c.args.pass.now c.args.link.now c.read.new.self c.args.clock.now c.args.bell.now c.in-End.ensures.told c.in-End.ensures.faults c.in-End.ensures.quiets,
  subst (λ (e : SessionEnd). Ends o (before ++ Tell Ended ∷ []) c.args.client.now e) (sym (c.end_with.ensures (waiting c.args.feeder.now) (sym c.rest.ensures))) (closes goes c.requires.still),
)

pub returns-in-Failed-clause-turned : goal.returns-in-Failed-clause-turned
returns-in-Failed-clause-turned g c = λ o before agrees goes. (
  Tell ReadFault ∷ [],
  did_heard g.C.Counter.account g.L.Link.tells g.L.Link.faults g.L.Link.quiets g.K.Clock.gave g.B.Bell.answered g.B.Bell.tolls g.B.Bell.rings ReadFault c.args.pass.now c.args.link.now c.read.new.self c.args.clock.now c.args.bell.now c.in-Failed.ensures.told c.in-Failed.ensures.faults c.in-Failed.ensures.quiets,
  breaks goes c.requires.still,
)

pub returns-else-rung-clause-turned : goal.returns-else-rung-clause-turned
returns-else-rung-clause-turned g c = λ o before agrees goes.
    let quiet : List Act = Tell Silence ∷ Hear false ∷ [] in
    let d = did_quiet g.C.Counter.account g.L.Link.tells g.L.Link.faults g.L.Link.quiets g.K.Clock.gave g.B.Bell.answered g.B.Bell.tolls g.B.Bell.rings false c.args.pass.now c.args.link.now c.read.new.self c.args.clock.now c.args.bell.now c.rung.new.self c.in-Quiet.ensures.told c.in-Quiet.ensures.faults c.in-Quiet.ensures.quiets c.if-rung.ensures.told c.if-rung.ensures.tolls c.if-rung.ensures.rings in
    let a = c.ask_any.ensures.asked o (before ++ quiet) (agrees_then g.C.Counter.account c.args.office.now o before quiet c.args.pass.now c.args.pass.now agrees d.pass) in (
      quiet ++ a.0,
      did_then d (did_asked g.C.Counter.account g.L.Link.tells g.L.Link.faults g.L.Link.quiets g.K.Clock.gave g.B.Bell.answered g.B.Bell.tolls g.B.Bell.rings a.0 c.args.pass.now c.ask_any.new.pass c.read.new.self c.args.clock.now c.ask_any.new.clock c.rung.new.self a.1),
      (
        subst (λ acts. Goes o acts c.args.client.now (waiting c.args.feeder.now)) (append_assoc before quiet a.0) (looks a.0 goes c.requires.still (subst (λ (client : Option Client). AsksAny Holding o (before ++ quiet) client kind.Look a.0) c.as_ref.ensures.value a.2)),
        c.requires.still,
      ),
    )
