use Rattle.std.proofs.Common.{◌≡◌, ap, refl}
use Rattle.options_machine.specs.declared.effect.Effect.TheVariants.{Tell}
use Rattle.options_machine.specs.Apply.{with_told}
use Rattle.seat_rows.specs.Seats.{SeatList}
use Rattle.seat_book.specs.Parts.{state_of}
use Rattle.seat_book.specs.declared.parts.Parts.{Parts}
use Rattle.seat_book.proofs.Books.{book_changed, counted_tell}
use Rattle.seat_book.proofs.book.BookRows.tell.Goals as goal

pub invariant_of-self : goal.invariant_of-self
invariant_of-self c =
    let p : Parts = c.self.inside.parts in
    let new : Parts = record p { seats = c.tell.new.self } in
    let state : state_of new ≡ with_told (state_of p) c.args.party = ap (λ (x : SeatList). state_of (record p { seats = x })) c.tell.ensures in
    book_changed c.args.self.now c.self.inside.sets.items p new c.self.inside.grants c.args.party c.requires.seated.0.client Tell c.self.view_is c.self.invariant c.requires.party c.requires.seated state
    (counted_tell c.self.inside.sets.items p new c.args.party c.self.invariant refl state)
    (λ e. (e, refl))
    (record { parties = ap (λ (x : SeatList). x.parties) c.tell.ensures; table = refl; queue = refl; reserves = refl; maxes = refl })
