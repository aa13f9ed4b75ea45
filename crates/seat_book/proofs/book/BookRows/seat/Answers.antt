use Rattle.std.proofs.Common.{sym, refl, ◌∙◌}
use Rattle.options_machine.specs.declared.effect.Effect.TheVariants.{Seat}
use Rattle.seat_book.proofs.Books.{book_changed, book_servable, counted_by, none_there, party_inside, seat_few}
use Rattle.seat_book.proofs.book.BookRows.seat.Goals as goal

pub seat-requires : goal.seat-requires
seat-requires c = record {
  party = party_inside c.args.self.now c.self.inside.sets.items c.self.inside.parts c.self.inside.grants c.args.party c.self.view_is c.requires.party;
  none = none_there c.args.self.now c.self.inside.sets.items c.self.inside.parts c.self.inside.grants c.args.party c.self.view_is c.requires.fits.0;
  few = seat_few c.args.self.now c.self.inside.sets.items c.self.inside.parts c.self.inside.grants c.args.party c.args.client.now c.args.charge c.self.view_is c.self.invariant c.requires.fits;
  counted = (book_servable c.self.inside.sets.items c.self.inside.parts c.index.result.now c.self.invariant c.index.ensures).counted;
}

pub invariant_of-self : goal.invariant_of-self
invariant_of-self c =
    book_changed c.args.self.now c.self.inside.sets.items c.self.inside.parts c.seat.new.parts c.self.inside.grants c.args.party c.args.client.now (Seat c.args.charge) c.self.view_is c.self.invariant c.requires.party c.requires.fits c.seat.ensures.state
    (counted_by c.self.inside.sets.items c.self.inside.parts c.index.result.now c.seat.new.parts c.self.invariant c.index.ensures c.seat.ensures.counted)
    (λ e. (sym c.seat.ensures.served ∙ e, refl))
    c.seat.ensures.room
