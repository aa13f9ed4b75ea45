use Rattle.std.proofs.Common.{◌++◌, [], None, Option, refl, sym, ap, subst}
use Rattle.lic_types.specs.declared.client.Client.{Client}
use Rattle.options_machine.specs.declared.reply.Kind.TheVariants as kind
use Rattle.session.specs.Asks.{LeavesIdleWhere}
use Rattle.line_protocol.specs.Streams.{waiting, Begins, IsOpen, IsOverlong}
use Rattle.session.specs.Did.{Agrees}
use Rattle.session.specs.Pass.{AreIdle}
use Rattle.session.specs.Session.{Goes, Session, setup_of, opens}
use Rattle.session.specs.Table.{GivesBack, Setup}
use Rattle.session.specs.declared.asked.Whom.TheVariants.{Keeping}
use Rattle.session.proofs.Causes.{session_cause}
use Rattle.session.proofs.Doings.{did_asked, did_then}
use Rattle.session.proofs.Standing.{agrees_opening, agrees_then}
use Rattle.session.proofs.Steps.{open_none}
use Rattle.session.proofs.Strangers.{idle_end, idle_none, keeps_nothing, session_none}
use Rattle.session.proofs.serving.serve.Goals as goal

pub converse-end-requires : goal.converse-end-requires
converse-end-requires g c = record {
  of = c.requires.of;
  fits = ap (λ (h : Rattle.line_protocol.specs.Streams.Held). h.over) c.clear.ensures;
  still = subst (λ bs. IsOpen bs) (sym (ap waiting c.clear.ensures)) open_none;
}

-- what was done, and that it keeps nothing
pub returns-clause-session : goal.returns-clause-session
returns-clause-session g c =
    let o : Setup = setup_of g.C.Counter.account c.args.office.now c.args.pass.now in
    let agrees : Agrees g.C.Counter.account c.args.office.now o [] c.args.pass.now = agrees_opening g.C.Counter.account c.args.office.now c.args.pass.now c.requires.idle in
    let e = c.converse-end.ensures.ended o [] agrees (subst (λ pending. Goes o [] None pending) (sym (ap waiting c.clear.ensures)) opens) in
    let b = c.ask_any.ensures.asked o e.0 (agrees_then g.C.Counter.account c.args.office.now o [] e.0 c.args.pass.now c.converse-end.new.pass agrees e.1.pass) in
    let did = did_then e.1 (did_asked g.C.Counter.account g.L.Link.tells g.L.Link.faults g.L.Link.quiets g.K.Clock.gave g.B.Bell.answered g.B.Bell.tolls g.B.Bell.rings b.0 c.converse-end.new.pass c.ask_any.new.pass c.converse-end.new.link c.converse-end.new.clock c.ask_any.new.clock c.converse-end.new.bell b.1) in
    let s : Session o (e.0 ++ b.0) c.converse-end.result = record { talk = e.0; back = b.0; client = c.converse-end.new.client; whole = refl; ended = e.2; gives_back = subst (λ (client : Option Client). GivesBack o e.0 client b.0) c.as_ref.ensures.value b.2 } in
    let last : Agrees g.C.Counter.account c.args.office.now o (e.0 ++ b.0) c.ask_any.new.pass = agrees_then g.C.Counter.account c.args.office.now o [] (e.0 ++ b.0) c.args.pass.now c.ask_any.new.pass agrees did.pass in
    let idle : AreIdle g.C.Counter.account c.ask_any.new.pass =
    idle_end g.C.Counter.account c.ask_any.new.pass c.converse-end.new.client
    (λ none. idle_none g.C.Counter.account c.args.office.now o (e.0 ++ b.0) c.ask_any.new.pass (session_none o (e.0 ++ b.0) c.converse-end.result s none) last)
    (subst (λ (client : Option Client). LeavesIdleWhere g.C.Counter.account Keeping kind.Quit client c.ask_any.new.pass) c.as_ref.ensures.value c.ask_any.ensures.idle) in
    (e.0 ++ b.0, s, keeps_nothing g.C.Counter.account c.args.office.now o (e.0 ++ b.0) c.ask_any.new.pass c.ask_any.ensures.of.long idle last, did)

pub returns-clause-cause : goal.returns-clause-cause
returns-clause-cause g c =
    let s = returns-clause-session g c in
    session_cause (setup_of g.C.Counter.account c.args.office.now c.args.pass.now) s.0 c.converse-end.result _ _ _ _ _ _ _ _ s.1 s.3.link.fault s.3.link.quiet s.3.bell.toll s.3.bell.ring

pub returns-clause-given_back : goal.returns-clause-given_back
unfolding returns-clause-session
returns-clause-given_back g c =
    let o : Setup = setup_of g.C.Counter.account c.args.office.now c.args.pass.now in
    let agrees : Agrees g.C.Counter.account c.args.office.now o [] c.args.pass.now = agrees_opening g.C.Counter.account c.args.office.now c.args.pass.now c.requires.idle in
    let s = returns-clause-session g c in
    let last : Agrees g.C.Counter.account c.args.office.now o s.0 c.ask_any.new.pass = agrees_then g.C.Counter.account c.args.office.now o [] s.0 c.args.pass.now c.ask_any.new.pass agrees s.3.pass in
    idle_end g.C.Counter.account c.ask_any.new.pass c.converse-end.new.client
    (λ none. idle_none g.C.Counter.account c.args.office.now o s.0 c.ask_any.new.pass (session_none o s.0 c.converse-end.result s.1 none) last)
    (subst (λ (client : Option Client). LeavesIdleWhere g.C.Counter.account Keeping kind.Quit client c.ask_any.new.pass) c.as_ref.ensures.value c.ask_any.ensures.idle)
