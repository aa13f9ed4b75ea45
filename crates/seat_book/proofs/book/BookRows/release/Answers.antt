use Rattle.std.proofs.Common.{◌≡◌, true, false, sym, ◌∙◌}
use Rattle.options_machine.specs.declared.effect.Effect.TheVariants.{Release}
use Rattle.seat_book.proofs.Books.{book_changed, book_servable, counted_by, party_inside, seat_there}
use Rattle.seat_book.proofs.book.BookRows.release.Goals as goal

pub release-requires : goal.release-requires
release-requires c = record {
  party = party_inside c.args.self.now c.self.inside.sets.items c.self.inside.parts c.self.inside.grants c.args.party c.self.view_is c.requires.party;
  seated = seat_there c.args.self.now c.self.inside.sets.items c.self.inside.parts c.self.inside.grants c.args.party c.self.view_is c.requires.seated;
  counted = (book_servable c.self.inside.sets.items c.self.inside.parts c.index.result.now c.self.invariant c.index.ensures).counted;
}

pub invariant_of-self : goal.invariant_of-self
invariant_of-self c =
    book_changed c.args.self.now c.self.inside.sets.items c.self.inside.parts c.release.new.parts c.self.inside.grants c.args.party c.requires.seated.0.client Release c.self.view_is c.self.invariant c.requires.party c.requires.seated c.release.ensures.state
    (counted_by c.self.inside.sets.items c.self.inside.parts c.index.result.now c.release.new.parts c.self.invariant c.index.ensures c.release.ensures.counted)
    (λ e. let never : true ≡ false = sym e ∙ c.release.ensures.served in absurd (cc))
    c.release.ensures.room
