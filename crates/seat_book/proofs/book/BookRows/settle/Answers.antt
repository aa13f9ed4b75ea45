use Rattle.seat_book.proofs.Books.{book_servable, book_served, book_settled}
use Rattle.seat_book.proofs.book.BookRows.settle.Goals as goal

pub settle-requires : goal.settle-requires
settle-requires c = record {
  servable = book_servable c.self.inside.sets.items c.self.inside.parts c.index.result.now c.self.invariant c.index.ensures;
  unheard = c.self.invariant.unheard;
  served = book_served c.self.inside.sets.items c.self.inside.parts c.index.result.now c.self.invariant c.index.ensures;
}

pub invariant_of-self : goal.invariant_of-self
invariant_of-self c = book_settled c.self.inside.sets.items c.self.inside.parts c.settle.new.parts c.index.result.now c.args.moment c.self.invariant c.index.ensures c.settle.ensures.state c.settle.ensures.counted c.settle.ensures.room
