use Rattle.std.proofs.Common.{◌≡◌, ◌+◌, true, false, cond, filter, length}
use Rattle.linger_table.specs.Table.{stays_at}
use Rattle.seat_book.specs.Parts.{AreCounted, HasSameRoom, state_of}
use Rattle.seat_book.proofs.lapsing.drop_lapsed.Given as goal

abbrev pub invariant-loop-more : goal.invariant-loop-more
invariant-loop-more l = record {
  counted : AreCounted l.rules l.parts;
  state : state_of l.parts ≡ record (state_of l.fn.parts) { lingering = l.parts.table.entries };
  moment : l.parts.moment ≡ l.fn.parts.moment;
  same : filter (stays_at l.fn.parts.moment) l.parts.table.entries ≡ filter (stays_at l.fn.parts.moment) l.fn.parts.table.entries;
  none : l.more ≡ false → filter (stays_at l.fn.parts.moment) l.parts.table.entries ≡ l.parts.table.entries;
  served : l.parts.is_served ≡ true → (l.fn.parts.is_served ≡ true) × (state_of l.parts ≡ state_of l.fn.parts);
  room : HasSameRoom l.fn.parts l.parts;
}

abbrev pub decreases-loop-more : goal.decreases-loop-more
decreases-loop-more l = length l.parts.table.entries + cond l.more 1 0
