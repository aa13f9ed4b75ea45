use Rattle.std.proofs.Common.{ap, ◌∙◌, sym, subst}
use Rattle.turn_lock.specs.Passes.{Closes}
use Rattle.turn_lock.proofs.Close.{closes}
use Rattle.turn_lock.proofs.Seats.{same_some}
use Rattle.turn_lock.proofs.turns.Turns.close.Goals as goal

pub unreachable-requires : goal.unreachable-requires
unreachable-requires g c = let whole = sym c.args.passes.ok.0 ∙ (c.requires.count ∙ (sym (ap (λ z. z.id.parties) c.self.view_is) ∙ sym c.self.invariant.told_is)) in
    let t = closes _ _ g.V.Kept.run g.V.Kept.stands _ _ _ _ _ _ _ _ _ whole c.gather-seat.ensures.all c.close_with-closed.ensures.values.2 c.word-calls.ensures c.take-slot.ensures.value in
    c.in_default.not-Some t.0 t.1

pub returns-clause-law : goal.returns-clause-law
returns-clause-law g c = let whole = sym c.args.passes.ok.0 ∙ (c.requires.count ∙ (sym (ap (λ z. z.id.parties) c.self.view_is) ∙ sym c.self.invariant.told_is)) in
    let t = closes _ _ g.V.Kept.run g.V.Kept.stands _ _ _ _ _ _ _ _ _ whole c.gather-seat.ensures.all c.close_with-closed.ensures.values.2 c.word-calls.ensures c.take-slot.ensures.value in
    ap g.V.Kept.law (sym (same_some _ _ _ t.1 c.in-Some.is)) ∙ (t.2 ∙ ap (λ z. z.law) c.self.view_is)

pub returns-clause-history : goal.returns-clause-history
returns-clause-history g c = let whole = sym c.args.passes.ok.0 ∙ (c.requires.count ∙ (sym (ap (λ z. z.id.parties) c.self.view_is) ∙ sym c.self.invariant.told_is)) in
    let t = closes _ _ g.V.Kept.run g.V.Kept.stands _ _ _ _ _ _ _ _ _ whole c.gather-seat.ensures.all c.close_with-closed.ensures.values.2 c.word-calls.ensures c.take-slot.ensures.value in
    subst (λ (l : g.row.V-Law.Denot). Closes g.V.Kept.party g.V.Kept.run g.V.Kept.stands l c.args.passes.items c.in-Some.value c.word-calls.result) (ap (λ z. z.law) c.self.view_is)
    (subst (λ (x : g.row.V.Denot). Closes g.V.Kept.party g.V.Kept.run g.V.Kept.stands (g.V.Kept.law c.self.inside.table.shared.key.value.value) c.args.passes.items x c.word-calls.result) (same_some _ _ _ t.1 c.in-Some.is) t.3)
