use Rattle.std.proofs.Common.{arith, ◌≤◌}
use Rattle.seat_book.proofs.Books.{book_short}
use Rattle.seat_book.proofs.book.Book.queued.Goals as goal

pub overflow_cast-result : goal.overflow_cast-result
overflow_cast-result c =
    let few : c.len.result ≤ 256 = omega (arith, c.len.ensures, book_short c.self.inside.sets.items c.self.inside.parts c.self.invariant) in
    omega (arith, few)

pub returns-clause-few : goal.returns-clause-few
returns-clause-few c = omega (arith, c.len.ensures, book_short c.self.inside.sets.items c.self.inside.parts c.self.invariant)
