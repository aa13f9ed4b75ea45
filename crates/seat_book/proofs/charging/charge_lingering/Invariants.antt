use Rattle.std.proofs.Common.{◌≡◌}
use Rattle.seat_book.specs.Charges.{AreAnewUpTo}
use Rattle.seat_book.specs.Parts.{HasSameRoom, state_of}
use Rattle.seat_book.proofs.charging.charge_lingering.Given as goal

abbrev pub invariant-loop-at : goal.invariant-loop-at
invariant-loop-at l = record {
  anew : AreAnewUpTo l.rules l.at l.fn.parts.seats.holders l.fn.parts.table.entries l.parts.table.entries l.parts.counters.counts;
  state : state_of l.parts ≡ record (state_of l.fn.parts) { lingering = l.parts.table.entries };
  room : HasSameRoom l.fn.parts l.parts;
}
