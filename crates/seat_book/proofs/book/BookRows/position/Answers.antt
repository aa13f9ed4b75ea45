use Rattle.std.proofs.Common.{arith}
use Rattle.seat_book.proofs.Books.{book_short}
use Rattle.seat_book.proofs.book.BookRows.position.Goals as goal

pub position_of-requires : goal.position_of-requires
position_of-requires c = omega (arith, book_short c.self.inside.sets.items c.self.inside.parts c.self.invariant)
