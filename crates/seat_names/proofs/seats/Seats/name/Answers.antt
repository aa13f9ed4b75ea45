use Rattle.std.proofs.Common.{◌∷◌, [], ◌++◌, length-append, arith}
use Rattle.seat_names.proofs.Leading.{leads_more}
use Rattle.seat_names.proofs.seats.Seats.name.Goals as goal

pub returns-clause-moved : goal.returns-clause-moved
returns-clause-moved c = let w = c.number.ensures.moved in let q = c.card_out.result.pass in
    (w.0 ++ q ∷ [], leads_more _ w.0 _ q w.1 c.card_out.ensures.moved, (let l = length-append w.0 (q ∷ []) in let n = w.2 _ c.card_out.ensures.place in omega arith))
