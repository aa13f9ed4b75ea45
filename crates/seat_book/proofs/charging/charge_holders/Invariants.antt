use Rattle.std.proofs.Common.{◌≡◌}
use Rattle.seat_book.specs.Charges.{AreAnewBelow}
use Rattle.seat_book.specs.Parts.{HasSameRoom, state_of}
use Rattle.seat_book.proofs.charging.charge_holders.Given as goal

abbrev pub invariant-loop-party : goal.invariant-loop-party
invariant-loop-party l = record {
  anew : AreAnewBelow l.rules l.party l.fn.parts.seats.holders l.parts.seats.holders l.parts.counters.counts;
  state : state_of l.parts ≡ record (state_of l.fn.parts) { holders = l.parts.seats.holders };
  room : HasSameRoom l.fn.parts l.parts;
}
