use Rattle.std.proofs.Common.{◌∷◌, ◌++◌, ◌<◌, List, length, reverse, ap, sym, ◌∙◌, subst, arith}
use Rattle.kex_gate.specs.Passes.{Guest, seats_of, session_numbers}
use Rattle.desk_seats.specs.declared.gathering.Gathered.{Gathered}
use Rattle.desk_seats.specs.Views.{gated_seats, parties_of}
use Rattle.desk_seats.specs.Taken.{AreTaken, got_by, got_in, numbers_in}
use Rattle.desk_seats.proofs.Lists.{got_by-push, length-numbers, numbers-push}
use Rattle.desk_seats.proofs.gathering.Gathered.with_gated.Goals as goal

pub push_reserved-requires : goal.push_reserved-requires
push_reserved-requires c =
    let v = gated_seats c.args.gate.now in let is = c.in-Gated.is in
    let taken = subst (AreTaken v) is c.requires.taken in
    let room = subst (λ (z : Gathered). length (numbers_in z) < parties_of v) is c.requires.room in
    let n = length-numbers c.in-Gated.passes.items in let l = c.in-Gated.passes.ok.0 in let cap = taken.1 in
    omega (arith, room, n, l, cap)

pub returns-clause-numbers : goal.returns-clause-numbers
returns-clause-numbers c =
    ap (λ (l : List Guest). reverse (session_numbers l)) c.push_reserved.ensures.items ∙ (numbers-push c.in-Gated.passes.items c.args.out ∙ ap (λ (z : Gathered). c.args.out.number ∷ numbers_in z) (sym c.in-Gated.is))

pub returns-clause-got : goal.returns-clause-got
returns-clause-got c =
    ap got_by c.push_reserved.ensures.items ∙ (got_by-push c.in-Gated.passes.items c.args.out ∙ ap (λ (z : Gathered). got_in z ++ seats_of c.args.out.visits) (sym c.in-Gated.is))
