use Rattle.std.proofs.Common.{◌≡◌, ◌+◌, length, All}
use Rattle.std.specs.Vec.Iter.{into_iter_items}
use Rattle.desk_seats.specs.Passes.{SeatPass}
use Rattle.kex_rows.proofs.tests.seatings.all_come.Given as goal

abbrev pub invariant-loop-pass : goal.invariant-loop-pass
invariant-loop-pass g l = (l.gathering.table ≡ l.seats) × (length l.gathering.numbers + length (into_iter_items l.pass-iterator) ≡ length l.fn.passes.items) × All (λ (p : SeatPass). p.table ≡ l.seats) (into_iter_items l.pass-iterator)
