use Rattle.std.proofs.Common.{◌≡◌, ◌∙◌, ◌+◌, ◌-◌, ◌++◌, [], Bool, true, false, cond, sym, ap, subst, arith, length, length-take, length-drop, drop, take, append_assoc, inl, inr}
use Rattle.std.proofs.lemmas.List.{append-nil, take_all, drop-drop}
use Rattle.line_protocol.specs.Requests.{request_of}
use Rattle.line_protocol.specs.Streams.{waiting, Begins, IsOpen, IsOverlong}
use Rattle.session.specs.Session.{Goes, Leads, overflows}
use Rattle.session.specs.Table.{Answers}
use Rattle.session.proofs.Doings.{did_none, did_then}
use Rattle.session.proofs.Standing.{agrees_then}
use Rattle.session.proofs.Steps.{goes_on, ends_so, open_none}
use Rattle.session.proofs.serving.hear.Goals as goal

pub loop-at-init : goal.loop-at-init
loop-at-init g c = record {
  within = omega arith;
  of = c.requires.of;
  fits = c.requires.fits;
  still = c.requires.still;
  heard = λ o before agrees goes. (
    [],
    did_none g.C.Counter.account g.L.Link.tells g.L.Link.faults g.L.Link.quiets g.K.Clock.gave g.B.Bell.answered g.B.Bell.tolls g.B.Bell.rings c.args.pass.now c.args.link.now c.args.clock.now c.args.bell.now,
    subst (λ acts. Goes o acts c.args.client.now (waiting c.args.feeder.now ++ c.args.piece.now)) (sym (append-nil before)) goes,
  );
}

pub returns-then-is_some-clause-heard : goal.returns-then-is_some-clause-heard
returns-then-is_some-clause-heard g c = λ o before agrees goes.
    let cut : take (length c.args.piece.now - c.loop-at.at) (drop c.loop-at.at c.args.piece.now) ≡ drop c.loop-at.at c.args.piece.now = take_all (length c.args.piece.now - c.loop-at.at) (drop c.loop-at.at c.args.piece.now) (omega (arith, length-drop c.loop-at.at c.args.piece.now)) in
    let begins : Begins (waiting c.loop-at.feeder ++ drop c.loop-at.at c.args.piece.now) c.feed.new.self.bytes (drop c.in-Line.used (drop c.loop-at.at c.args.piece.now)) = subst (λ bs. Begins (waiting c.loop-at.feeder ++ bs) c.feed.new.self.bytes (drop c.in-Line.used bs)) cut c.in-Line.ensures.begins in
    let r = c.loop-at.invariant.heard o before agrees goes in
    let a = c.answer-end.ensures.answered o (before ++ r.0) (agrees_then g.C.Counter.account c.args.office.now o before r.0 c.args.pass.now c.loop-at.pass agrees r.1.pass) in (
      r.0 ++ a.0,
      did_then r.1 a.1,
      subst (λ acts. Leads o acts c.answer-end.new.client (waiting c.feed.new.self) c.answer-end.result) (append_assoc before r.0 a.0)
          (ends_so o (before ++ r.0) c.loop-at.client (waiting c.loop-at.feeder ++ drop c.loop-at.at c.args.piece.now) c.feed.new.self.bytes (drop c.in-Line.used (drop c.loop-at.at c.args.piece.now)) (waiting c.feed.new.self) a.0 c.answer-end.new.client c.answer-end.result
          (sym c.is_some.ensures ∙ c.if-is_some.true) r.2 begins
          (subst (λ line. Answers o (before ++ r.0) c.loop-at.client (request_of line) a.0 c.answer-end.new.client c.answer-end.result) c.line.ensures a.2)),
    )

pub loop-at-preserved : goal.loop-at-preserved
loop-at-preserved g c =
    let none : waiting c.feed.new.self ≡ [] = ap (λ b. cond b [] c.feed.new.self.bytes) c.in-Line.ensures.given in
    record {
      within = omega (arith, c.in-Line.ensures.within, length-take (length c.args.piece.now - c.loop-at.at) (drop c.loop-at.at c.args.piece.now), length-drop c.loop-at.at c.args.piece.now);
      of = c.answer-end.ensures.of;
      fits = c.in-Line.ensures.fits;
      still = subst (λ bs. IsOpen bs) (sym none) open_none;
      heard = λ o before agrees goes.
          let cut : take (length c.args.piece.now - c.loop-at.at) (drop c.loop-at.at c.args.piece.now) ≡ drop c.loop-at.at c.args.piece.now = take_all (length c.args.piece.now - c.loop-at.at) (drop c.loop-at.at c.args.piece.now) (omega (arith, length-drop c.loop-at.at c.args.piece.now)) in
          let begins : Begins (waiting c.loop-at.feeder ++ drop c.loop-at.at c.args.piece.now) c.feed.new.self.bytes (drop c.in-Line.used (drop c.loop-at.at c.args.piece.now)) = subst (λ bs. Begins (waiting c.loop-at.feeder ++ bs) c.feed.new.self.bytes (drop c.in-Line.used bs)) cut c.in-Line.ensures.begins in
          let r = c.loop-at.invariant.heard o before agrees goes in
          let a = c.answer-end.ensures.answered o (before ++ r.0) (agrees_then g.C.Counter.account c.args.office.now o before r.0 c.args.pass.now c.loop-at.pass agrees r.1.pass) in
          let rest : drop c.in-Line.used (drop c.loop-at.at c.args.piece.now) ≡ waiting c.feed.new.self ++ drop (c.loop-at.at + c.in-Line.used) c.args.piece.now = drop-drop c.in-Line.used c.loop-at.at c.args.piece.now ∙ sym (ap (λ l. l ++ drop (c.loop-at.at + c.in-Line.used) c.args.piece.now) none) in (
            r.0 ++ a.0,
            did_then r.1 a.1,
            subst (λ acts. Goes o acts c.answer-end.new.client (waiting c.feed.new.self ++ drop (c.loop-at.at + c.in-Line.used) c.args.piece.now)) (append_assoc before r.0 a.0)
                (subst (λ pending. Goes o ((before ++ r.0) ++ a.0) c.answer-end.new.client pending) rest
                (goes_on o (before ++ r.0) c.loop-at.client (waiting c.loop-at.feeder ++ drop c.loop-at.at c.args.piece.now) c.feed.new.self.bytes (drop c.in-Line.used (drop c.loop-at.at c.args.piece.now)) a.0 c.answer-end.new.client c.answer-end.result
                (sym c.is_some.ensures ∙ c.if-is_some.false) r.2 begins
                (subst (λ line. Answers o (before ++ r.0) c.loop-at.client (request_of line) a.0 c.answer-end.new.client c.answer-end.result) c.line.ensures a.2))),
          );
    }

pub returns-in-TooLong-clause-heard : goal.returns-in-TooLong-clause-heard
returns-in-TooLong-clause-heard g c = λ o before agrees goes.
    let cut : take (length c.args.piece.now - c.loop-at.at) (drop c.loop-at.at c.args.piece.now) ≡ drop c.loop-at.at c.args.piece.now = take_all (length c.args.piece.now - c.loop-at.at) (drop c.loop-at.at c.args.piece.now) (omega (arith, length-drop c.loop-at.at c.args.piece.now)) in
    let r = c.loop-at.invariant.heard o before agrees goes in
    let long : IsOverlong (waiting c.loop-at.feeder ++ take (length c.args.piece.now - c.loop-at.at) (drop c.loop-at.at c.args.piece.now)) = elim c.in-TooLong.ensures.why [ inl e ↦ absurd (no_over c.loop-at.feeder.over e c.loop-at.invariant.fits) | inr l ↦ l ] in
    (r.0, r.1, overflows r.2 (subst (λ bs. IsOverlong (waiting c.loop-at.feeder ++ bs)) cut long))
  where
    no_over : (b : Bool) → b ≡ true → b ≡ false → ⊥
    no_over b e f = cc
