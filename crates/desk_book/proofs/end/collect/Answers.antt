use Rattle.std.proofs.Common.{◌∷◌, ◌++◌, [], length, length-append, append_assoc, sym, ap, ◌∙◌, subst, arith}
use Rattle.desk_book.specs.Ends.{AreTickets}
use Rattle.desk_book.proofs.Closings.{as_many, tickets_on}
use Rattle.desk_book.proofs.end.collect.Goals as goal

pub push_reserved-requires : goal.push_reserved-requires
push_reserved-requires c =
    let i = c.loop-pass.invariant in
    let many = as_many c.loop-pass.yielded c.loop-pass.tickets.items i.0 in let room = i.1 in
    let all = ap length i.2 in let parts = length-append c.loop-pass.yielded c.loop-pass.pass-iterator.rest.items in let rest = ap length c.in-Some.ensures.steps.0 in
    let a = c.loop-pass.tickets.ok.0 in let b = c.args.passes.ok.0 in
    omega (arith, many, room, all, parts, rest, a, b)

pub loop-pass-preserved : goal.loop-pass-preserved
loop-pass-preserved c =
    let i = c.loop-pass.invariant in (
      subst (AreTickets (c.loop-pass.yielded ++ c.in-Some.pass ∷ [])) (sym c.push_reserved.ensures.items)
          (tickets_on c.loop-pass.yielded c.loop-pass.tickets.items c.in-Some.pass c.into_ticket.result i.0 c.into_ticket.ensures),
      (let cap = c.push_reserved.ensures.capacity in let room = i.1 in omega (arith, cap, room)),
      append_assoc c.loop-pass.yielded (c.in-Some.pass ∷ []) _ ∙ (ap (λ l. c.loop-pass.yielded ++ l) (sym c.in-Some.ensures.steps.0) ∙ i.2),
    )
