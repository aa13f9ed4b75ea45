use Rattle.std.proofs.Common.{◌∙◌, ◌++◌, ◌∷◌, [], Bool, cond, ap, refl, sym, subst, inl, inr, arith, Some, Ok, Err, length-append}
use Rattle.std.proofs.lemmas.Result.{err_from_is_err_and}
use Rattle.session_outside.specs.Talk.{Follows}
use Rattle.client_talk.specs.Keeping.{Turns, is_due}
use Rattle.client_talk.proofs.Standings.{stood_more, stood_none}
use Rattle.client_talk.proofs.keeping.stay.Goals as goal

pub loop-turn-init : goal.loop-turn-init
loop-turn-init g c = (
  c.now-last.result,
  [],
  stood_none g.L.Link.tells g.K.Clock.gave g.B.Bell.answered c.args.link.now c.args.clock.now c.now-last.new.self c.args.bell.now c.args.feature.now c.args.every c.args.standing c.now-last.result c.now-last.ensures,
  refl,
  refl,
)

pub loop-turn-preserved : goal.loop-turn-preserved
loop-turn-preserved g c =
    let i = c.loop-turn.invariant in
    let due = c.is_due-due.ensures ∙ ap (λ l. is_due l c.now-now.result c.args.every) i.3 in
    let more =
    stood_more g.L.Link.tells g.K.Clock.gave g.B.Bell.answered c.args.link.now c.loop-turn.link c.turn.new.link c.args.clock.now c.loop-turn.clock c.now-now.new.self c.args.bell.now c.loop-turn.bell c.rung.new.self
    c.args.feature.now c.args.every c.args.standing i.0 i.1 c.now-now.result c.is_due-due.result i.2 c.now-now.ensures
    (subst (λ (v : Bool). Follows g.B.Bell.answered c.loop-turn.bell c.rung.new.self (v ∷ [])) c.if-rung.false c.rung.ensures.told) due (rw c.in_default.is at c.in_ok-seat.ensures) in (
      i.0,
      i.1 ++ more.turn ∷ [],
      more.stood,
      c.last_beat-last.ensures ∙ (ap (λ l. cond c.is_due-due.result c.now-now.result l) i.3 ∙ sym more.last),
      omega (arith, length-append i.1 (more.turn ∷ []), i.4),
    )

pub returns-then-rung : goal.returns-then-rung
returns-then-rung g c =
    let i = c.loop-turn.invariant in
    record {
      start = i.0;
      turns = i.1;
      at = c.loop-turn.link;
      when = c.loop-turn.clock;
      rope = c.loop-turn.bell;
      stood = i.2;
      ended = (refl, refl, inl (subst (λ (v : Bool). Follows g.B.Bell.answered c.loop-turn.bell c.rung.new.self (v ∷ [])) c.if-rung.true c.rung.ensures.told));
    }

pub returns-in-Some : goal.returns-in-Some
returns-in-Some g c =
    let i = c.loop-turn.invariant in
    let due = c.is_due-due.ensures ∙ ap (λ l. is_due l c.now-now.result c.args.every) i.3 in
    record {
      start = i.0;
      turns = i.1;
      at = c.loop-turn.link;
      when = c.loop-turn.clock;
      rope = c.loop-turn.bell;
      stood = i.2;
      ended = record {
        moment = c.now-now.result;
        shown = c.now-now.ensures;
        unrung = subst (λ (v : Bool). Follows g.B.Bell.answered c.loop-turn.bell c.rung.new.self (v ∷ [])) c.if-rung.false c.rung.ensures.told;
        turn = subst (λ (d : Bool). Turns g.L.Link.tells c.loop-turn.link c.turn.new.link c.args.feature.now c.args.standing d (Ok (Some c.in-Some.seat))) due (rw c.in-Some.is at c.in_ok-seat.ensures);
      };
    }

pub returns-in_err-seat : goal.returns-in_err-seat
returns-in_err-seat g c =
    let i = c.loop-turn.invariant in
    let due = c.is_due-due.ensures ∙ ap (λ l. is_due l c.now-now.result c.args.every) i.3 in
    let p = err_from_is_err_and c.from_residual.result c.from_residual.ensures.1 in
    rw (p.1, p.2) (record {
      start = i.0;
      turns = i.1;
      at = c.loop-turn.link;
      when = c.loop-turn.clock;
      rope = c.loop-turn.bell;
      stood = i.2;
      ended = record {
        moment = c.now-now.result;
        shown = c.now-now.ensures;
        unrung = subst (λ (v : Bool). Follows g.B.Bell.answered c.loop-turn.bell c.rung.new.self (v ∷ [])) c.if-rung.false c.rung.ensures.told;
        turn = subst (λ (d : Bool). Turns g.L.Link.tells c.loop-turn.link c.turn.new.link c.args.feature.now c.args.standing d (Err c.in_err-seat.field-0.0)) due c.in_err-seat.ensures;
      };
    })

pub returns : goal.returns
returns g c =
    let i = c.loop-turn.invariant in
    record {
      start = i.0;
      turns = i.1;
      at = c.loop-turn.link;
      when = c.loop-turn.clock;
      rope = c.loop-turn.bell;
      stood = i.2;
      ended = (refl, refl, inr (omega (arith, i.4), refl));
    }
