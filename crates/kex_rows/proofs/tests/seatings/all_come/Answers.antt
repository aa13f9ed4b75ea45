use Rattle.std.proofs.Common.{◌≡◌, suc, length, All, ap, subst, arith}
use Rattle.std.specs.Vec.Iter.{into_iter_items}
use Rattle.desk_seats.specs.Passes.{SeatPass}
use Rattle.kex_rows.proofs.tests.seatings.all_come.Goals as goal

pub loop-pass-preserved : goal.loop-pass-preserved
loop-pass-preserved g c =
    let i = c.loop-pass.invariant in let next = c.in-Some.ensures.steps.0 in
    let all = subst (All (λ (p : SeatPass). p.table ≡ c.args.seats)) next i.2 in
    let n : length c.gather-gathering.result.numbers ≡ suc (length c.loop-pass.gathering.numbers) = ap length c.gather-gathering.ensures.numbers in
    let m : length (into_iter_items c.loop-pass.pass-iterator) ≡ suc (length (into_iter_items c.next.new.self)) = ap length next in
    let sum = i.1 in
    (c.gather-gathering.ensures.table, omega (arith, n, m, sum), λ k d lt. all (suc k) d (omega (arith, lt)))
