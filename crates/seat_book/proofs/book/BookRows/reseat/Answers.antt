use Rattle.std.proofs.Common.{ap, sym, refl, ◌∙◌}
use Rattle.options_machine.specs.declared.effect.Effect.TheVariants.{Reseat}
use Rattle.seat_counters.specs.Counts.{CounterList}
use Rattle.seat_book.proofs.Books.{book_changed, counted_reseat, none_there, party_inside}
use Rattle.seat_book.proofs.book.BookRows.reseat.Goals as goal

pub seat_again-requires : goal.seat_again-requires
seat_again-requires c = record {
  party = party_inside c.args.self.now c.self.inside.sets.items c.self.inside.parts c.self.inside.grants c.args.party c.self.view_is c.requires.party;
  none = none_there c.args.self.now c.self.inside.sets.items c.self.inside.parts c.self.inside.grants c.args.party c.self.view_is c.requires.fits.0;
}

pub invariant_of-self : goal.invariant_of-self
invariant_of-self c =
    book_changed c.args.self.now c.self.inside.sets.items c.self.inside.parts c.seat_again.new.parts c.self.inside.grants c.args.party c.args.client.now (Reseat c.args.charge) c.self.view_is c.self.invariant c.requires.party c.requires.fits c.seat_again.ensures.state
    (counted_reseat c.args.self.now c.self.inside.sets.items c.self.inside.parts c.seat_again.new.parts c.self.inside.grants c.args.party c.args.client.now c.args.charge c.self.view_is c.self.invariant c.requires.fits (ap (λ (x : CounterList). x.counts) c.seat_again.ensures.counters) c.seat_again.ensures.state)
    (λ e. (sym c.seat_again.ensures.served ∙ e, refl))
    c.seat_again.ensures.room
