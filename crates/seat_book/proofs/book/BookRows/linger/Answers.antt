use Rattle.std.proofs.Common.{◌≡◌, true, false, ap, sym, ◌∙◌}
use Rattle.options_machine.specs.declared.effect.Effect.TheVariants.{Linger}
use Rattle.seat_counters.specs.Counts.{CounterList}
use Rattle.seat_book.proofs.Books.{book_changed, counted_linger, party_inside, table_room}
use Rattle.seat_book.proofs.book.BookRows.linger.Goals as goal

pub linger-requires : goal.linger-requires
linger-requires c = record {
  party = party_inside c.args.self.now c.self.inside.sets.items c.self.inside.parts c.self.inside.grants c.args.party c.self.view_is c.requires.party;
  room = table_room c.args.self.now c.self.inside.sets.items c.self.inside.parts c.self.inside.grants c.args.party c.args.entry.now.client c.args.entry.now c.self.view_is c.self.invariant c.requires.fits;
}

pub invariant_of-self : goal.invariant_of-self
invariant_of-self c =
    book_changed c.args.self.now c.self.inside.sets.items c.self.inside.parts c.linger.new.parts c.self.inside.grants c.args.party c.args.entry.now.client (Linger c.args.entry.now) c.self.view_is c.self.invariant c.requires.party c.requires.fits c.linger.ensures.state
    (counted_linger c.args.self.now c.self.inside.sets.items c.self.inside.parts c.linger.new.parts c.self.inside.grants c.args.party c.args.entry.now.client c.args.entry.now c.self.view_is c.self.invariant c.requires.fits (ap (λ (x : CounterList). x.counts) c.linger.ensures.counters) c.linger.ensures.state)
    (λ e. let never : true ≡ false = sym e ∙ c.linger.ensures.served in absurd (cc))
    c.linger.ensures.room
