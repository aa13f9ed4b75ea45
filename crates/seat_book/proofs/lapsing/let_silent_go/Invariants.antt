use Rattle.std.proofs.Common.{◌≡◌, ◌+◌, true, false, cond, filter, length}
use Rattle.seat_rows.specs.Seats.{is_heard}
use Rattle.seat_book.specs.Parts.{AreCounted, HasSameRoom, state_of}
use Rattle.seat_book.proofs.lapsing.let_silent_go.Given as goal

abbrev pub invariant-loop-more : goal.invariant-loop-more
invariant-loop-more l = record {
  counted : AreCounted l.rules l.parts;
  state : state_of l.parts ≡ record (state_of l.fn.parts) { holders = l.parts.seats.holders };
  same : filter (is_heard l.over) l.parts.seats.holders ≡ filter (is_heard l.over) l.fn.parts.seats.holders;
  none : l.more ≡ false → filter (is_heard l.over) l.parts.seats.holders ≡ l.parts.seats.holders;
  served : l.parts.is_served ≡ true → (l.fn.parts.is_served ≡ true) × (state_of l.parts ≡ state_of l.fn.parts);
  room : HasSameRoom l.fn.parts l.parts;
}

abbrev pub decreases-loop-more : goal.decreases-loop-more
decreases-loop-more l = length l.parts.seats.holders + cond l.more 1 0
