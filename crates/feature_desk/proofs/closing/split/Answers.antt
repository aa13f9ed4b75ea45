use Rattle.std.proofs.Common.{◌≡◌, suc, ◌+◌, ◌++◌, ◌∷◌, [], List, length, length-append, append_assoc, ap, sym, ◌∙◌, subst, arith}
use Rattle.desk_seats.specs.Passes.{SeatPass}
use Rattle.desk_book.specs.Askers.{Asker}
use Rattle.feature_desk.proofs.Splits.{Splits, split_on}
use Rattle.feature_desk.proofs.closing.split.Goals as goal

pub loop-pass-preserved : goal.loop-pass-preserved
loop-pass-preserved c =
    let i = c.loop-pass.invariant in let l = c.loop-pass in let x = c.in-Some.pass in let parts = c.into_parts-ticket.ensures in let taken = c.gather-gathering.ensures in
    let tickets : c.push_reserved.new.self.items ≡ l.tickets.items ++ x.ticket ∷ [] = c.push_reserved.ensures.items ∙ ap (λ (t : Asker). l.tickets.items ++ t ∷ []) parts.same.0 in (
      subst (λ (z : List Asker). Splits c.args.seats.now (l.yielded ++ x ∷ []) z c.gather-gathering.result) (sym tickets)
          (split_on c.args.seats.now l.yielded x l.tickets.items l.gathering c.gather-gathering.result i.0 taken.table (let n : length c.gather-gathering.result.numbers ≡ suc (length l.gathering.numbers) = ap length taken.numbers in omega (arith, n))
          (ap length taken.got ∙ (length-append l.gathering.got _ ∙ ap (λ (p : SeatPass). length l.gathering.got + length p.got) parts.same.1)) parts.settled),
      (let cap = c.push_reserved.ensures.capacity in let room = i.1 in omega (arith, cap, room)),
      append_assoc l.yielded (x ∷ []) _ ∙ (ap (λ z. l.yielded ++ z) (sym c.in-Some.ensures.steps.0) ∙ i.2),
    )
