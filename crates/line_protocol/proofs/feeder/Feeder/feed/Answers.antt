use Rattle.std.proofs.Common.{◌≡◌, ◌≢◌, ◌+◌, ◌∙◌, ◌++◌, true, false, take, drop, length, ap, sym, refl, arith, length-take, take_all, subst, inl, inr}
use Rattle.std.proofs.lemmas.List.Elements.{All-append}
use Rattle.line_protocol.specs.Feeding.{Feeds}
use Rattle.line_protocol.specs.Streams.{Begins, Held, IsFlat, waiting}
use Rattle.line_protocol.specs.declared.feeder.Fed.{Fed}
use Rattle.line_protocol.proofs.Feedings.{begins, not_both, nothing_waits, overlong}
use Rattle.line_protocol.proofs.feeder.Feeder.feed.Goals as goal

pub returns-then-self : goal.returns-then-self
returns-then-self c =
    let over : c.args.self.now.over ≡ true = sym (ap (λ (h : Held). h.over) c.self.view_is) ∙ c.if-self.true in
    record {
      over = over;
      nothing = nothing_waits c.args.self.now.given c.args.self.now.bytes
          (ap length (sym (ap (λ (h : Held). h.bytes) c.self.view_is)) ∙ omega (arith, length-take c.self.inside.len c.self.inside.bytes, c.self.invariant.nothing c.if-self.true));
      why = inl over;
    }

pub returns-then-at-self : goal.returns-then-at-self
returns-then-at-self c =
    let s = c.self-in-Some in
    let e : take s.inside.len s.inside.bytes ≡ waiting c.args.self.now = ap (λ (h : Held). h.bytes) (s.view_is ∙ c.begin.ensures) in
    let flat : IsFlat (waiting c.args.self.now) = subst (λ bs. IsFlat bs) e s.invariant.flat in
    let l : length (waiting c.args.self.now) ≡ s.inside.len = omega (arith, ap length e, length-take s.inside.len s.inside.bytes, s.invariant.short, s.told) in
    subst (λ (fed : Fed). Feeds c.args.self.now c.overflow.new.self c.args.piece.now fed) (sym c.overflow.ensures.result)
    (record {
      over = ap (λ (h : Held). h.over) c.overflow.ensures.over;
      nothing = ap (λ (h : Held). length (waiting h)) c.overflow.ensures.over;
      why = inr (overlong (waiting c.args.self.now) c.args.piece.now c.in-Some.at flat (omega (arith, c.in-Some.ensures.found.0)) c.in-Some.ensures.found.1 (omega arith));
    })

pub returns-then-piece-self : goal.returns-then-piece-self
returns-then-piece-self c =
    let s = c.self-in-None in
    let e : take s.inside.len s.inside.bytes ≡ waiting c.args.self.now = ap (λ (h : Held). h.bytes) (s.view_is ∙ c.begin.ensures) in
    let flat : IsFlat (waiting c.args.self.now) = subst (λ bs. IsFlat bs) e s.invariant.flat in
    let l : length (waiting c.args.self.now) ≡ s.inside.len = omega (arith, ap length e, length-take s.inside.len s.inside.bytes, s.invariant.short, s.told) in
    let all : take (length c.args.piece.now) c.args.piece.now ≡ c.args.piece.now = take_all (length c.args.piece.now) c.args.piece.now (omega arith) in
    let o = c.overflow-then-piece-self in
    subst (λ (fed : Fed). Feeds c.args.self.now o.new.self c.args.piece.now fed) (sym o.ensures.result)
    (record {
      over = ap (λ (h : Held). h.over) o.ensures.over;
      nothing = ap (λ (h : Held). length (waiting h)) o.ensures.over;
      why = inr (overlong (waiting c.args.self.now) c.args.piece.now (length c.args.piece.now) flat (omega arith) (subst (λ bs. IsFlat bs) (sym all) c.in-None.ensures.none) (omega arith));
    })

pub invariant_of-self : goal.invariant_of-self
invariant_of-self c =
    let s = c.self-in-Some in
    let over : s.inside.over ≡ false = ap (λ (h : Held). h.over) (s.view_is ∙ c.begin.ensures) ∙ sym (ap (λ (h : Held). h.over) c.self.view_is) ∙ c.if-self.false in
    let n : length (take c.in-Some.at c.args.piece.now) ≡ c.in-Some.at = omega (arith, length-take c.in-Some.at c.args.piece.now, c.in-Some.ensures.found.0) in
    let held : take (s.inside.len + c.in-Some.at) c.append.new.bytes ≡ take s.inside.len s.inside.bytes ++ take c.in-Some.at c.args.piece.now = ap (λ k. take (s.inside.len + k) c.append.new.bytes) (sym n) ∙ c.append.ensures in
    record {
      short = omega (arith, s.invariant.short);
      flat = subst (λ bs. IsFlat bs) (sym held) (All-append (λ b. b ≢ 10) (take s.inside.len s.inside.bytes) (take c.in-Some.at c.args.piece.now) s.invariant.flat c.in-Some.ensures.found.1);
      nothing = λ e. absurd (not_both s.inside.over e over);
    }

pub returns-else-at-self : goal.returns-else-at-self
returns-else-at-self c =
    let s = c.self-in-Some in
    let e : take s.inside.len s.inside.bytes ≡ waiting c.args.self.now = ap (λ (h : Held). h.bytes) (s.view_is ∙ c.begin.ensures) in
    let flat : IsFlat (waiting c.args.self.now) = subst (λ bs. IsFlat bs) e s.invariant.flat in
    let l : length (waiting c.args.self.now) ≡ s.inside.len = omega (arith, ap length e, length-take s.inside.len s.inside.bytes, s.invariant.short, s.told) in
    let before : c.args.self.now.over ≡ false = sym (ap (λ (h : Held). h.over) c.self.view_is) ∙ c.if-self.false in
    let n : length (take c.in-Some.at c.args.piece.now) ≡ c.in-Some.at = omega (arith, length-take c.in-Some.at c.args.piece.now, c.in-Some.ensures.found.0) in
    let held : take (s.inside.len + c.in-Some.at) c.append.new.bytes ≡ waiting c.args.self.now ++ take c.in-Some.at c.args.piece.now = ap (λ k. take (s.inside.len + k) c.append.new.bytes) (sym n) ∙ c.append.ensures ∙ ap (λ w. w ++ take c.in-Some.at c.args.piece.now) e in
    record {
      some = omega arith;
      within = omega (arith, c.in-Some.ensures.found.0);
      before = before;
      given = refl;
      fits = ap (λ (h : Held). h.over) (s.view_is ∙ c.begin.ensures) ∙ before;
      begins = subst (λ h. Begins (waiting c.args.self.now ++ c.args.piece.now) h (drop (c.in-Some.at + 1) c.args.piece.now)) (sym held)
          (begins (waiting c.args.self.now) c.args.piece.now c.in-Some.at flat (omega (arith, c.in-Some.ensures.found.0)) c.in-Some.ensures.found.1 (omega arith) c.in-Some.ensures.found.2);
    }
