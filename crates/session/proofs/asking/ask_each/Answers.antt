use Rattle.std.proofs.Common.{◌≡◌, ◌++◌, ◌∷◌, ◌∙◌, [], List, length, sym, subst, arith, ℕ}
use Rattle.session.specs.Acts.{Act, Moment, Enter}
use Rattle.session.specs.Asks.{AsksUpTo, LeavesIdle}
use Rattle.session.specs.Did.{Agrees}
use Rattle.session.specs.Table.{Setup, is_desk_meant}
use Rattle.session.proofs.EachAsked.{idle_asked, idle_passed, not_kept, upto_asked, upto_none, upto_passed}
use Rattle.session.proofs.Standing.{agrees_then, meant_is, same_at}
use Rattle.session.proofs.asking.ask_each.Goals as goal
use Rattle.session.proofs.asking.ask_each.Goals.{then-is_meant, else-is_meant}

pub loop-i-init : goal.loop-i-init
loop-i-init g c = record {
  of = c.requires.of;
  idle = λ keeping quit j d below. absurd (omega arith);
  asked = λ o before agrees. ([], upto_none g.C.Counter.account g.K.Clock.gave o c.args.client.now c.args.whom c.args.kind before c.args.pass.now c.args.clock.now);
}

pub loop-i-preserved : goal.loop-i-preserved
loop-i-preserved g c =
    let account = g.C.Counter.account in
    -- the counter is meant where the session's desk is
    let same : (o : Setup) (before : List Act) (agrees : Agrees account c.args.office.now o before c.args.pass.now) → c.is_meant.result ≡ is_desk_meant c.args.whom o before c.loop-i.i =
    λ o before agrees.
    let r = c.loop-i.invariant.asked o before agrees in
    c.is_meant.ensures
    ∙ meant_is account c.args.office.now o (before ++ r.0) c.loop-i.pass c.args.whom c.loop-i.i c.index-pass-i.result (agrees_then account c.args.office.now o before r.0 c.args.pass.now c.loop-i.pass agrees r.1.only.pass) (omega arith)
    ∙ same_at c.args.whom o before r.0 c.loop-i.i (r.1.later c.loop-i.i (omega arith)) in
    elim c.if-is_meant.branch [
      | then-is_meant w ↦ record {
        of = rw w.pass-is w.ask_at-answered.ensures.of;
        idle = rw w.pass-is (idle_asked account c.args.whom c.args.kind c.loop-i.i c.loop-i.pass w.ask_at-answered.new.pass (omega arith) w.ask_at-answered.ensures.left c.loop-i.invariant.idle);
        asked = λ o before agrees.
            let r = c.loop-i.invariant.asked o before agrees in
            let q = w.ask_at-answered.ensures.asked in (
              r.0 ++ Moment w.now-at.result ∷ Enter c.loop-i.i q.0 ∷ [],
              rw (w.pass-is, w.clock-is) (upto_asked account g.K.Clock.gave o c.args.client.now c.args.whom c.args.kind before c.loop-i.i w.now-at.result q.0
                  c.args.pass.now c.loop-i.pass w.ask_at-answered.new.pass c.args.clock.now c.loop-i.clock w.now-at.new.self r.0
                  (sym (same o before agrees) ∙ w.if-is_meant.true) q.2 w.now-at.ensures q.1 r.1),
            );
      }
      | else-is_meant w ↦ record {
        of = rw w.pass-is c.loop-i.invariant.of;
        idle = rw w.pass-is (idle_passed account c.args.whom c.args.kind c.loop-i.i c.loop-i.pass
            (λ keeping d. not_kept account c.args.whom c.loop-i.pass c.loop-i.i c.index-pass-i.result d (omega arith) keeping (sym c.is_meant.ensures ∙ w.if-is_meant.false))
            c.loop-i.invariant.idle);
        asked = λ o before agrees.
            let r = c.loop-i.invariant.asked o before agrees in (
              r.0,
              rw (w.pass-is, w.clock-is) (upto_passed account g.K.Clock.gave o c.args.client.now c.args.whom c.args.kind before c.loop-i.i
                  c.args.pass.now c.loop-i.pass c.args.clock.now c.loop-i.clock r.0 (sym (same o before agrees) ∙ w.if-is_meant.false) r.1),
            );
      }
    ]

pub returns : goal.returns
returns g c = record {
  asked = λ o before agrees.
      let r = c.loop-i.invariant.asked o before agrees in
      let e : c.loop-i.i ≡ length c.args.pass.now = omega arith in
      (r.0, subst (λ (n : ℕ). AsksUpTo g.C.Counter.account g.K.Clock.gave o c.args.client.now c.args.whom c.args.kind before n c.args.pass.now c.loop-i.pass c.args.clock.now c.loop-i.clock r.0) e r.1);
  of = c.loop-i.invariant.of;
  idle = (let e : c.loop-i.i ≡ length c.loop-i.pass = omega arith in subst (λ (n : ℕ). LeavesIdle g.C.Counter.account c.args.whom c.args.kind c.loop-i.pass n) e c.loop-i.invariant.idle);
}
