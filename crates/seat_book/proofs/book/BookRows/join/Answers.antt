use Rattle.std.proofs.Common.{List, ◌<◌, length, vec_capacity, rules, ap, refl}
use Rattle.options_machine.specs.declared.effect.Effect.TheVariants.{Join}
use Rattle.options_machine.specs.declared.rows.Queuer.{Queuer}
use Rattle.seat_book.specs.Parts.{state_of}
use Rattle.seat_book.proofs.Books.{book_changed, queue_room}
use Rattle.seat_book.proofs.book.BookRows.join.Goals as goal

pub push_reserved-requires : goal.push_reserved-requires
push_reserved-requires c =
    let room : length c.self.inside.parts.queue.items < vec_capacity c.self.inside.parts.queue = queue_room c.args.self.now c.self.inside.sets.items c.self.inside.parts c.self.inside.grants c.args.party c.self.view_is c.self.invariant c.requires.party c.requires.fits.0 in
    search (rules, room)

pub invariant_of-self : goal.invariant_of-self
invariant_of-self c =
    book_changed c.args.self.now c.self.inside.sets.items c.self.inside.parts (record c.self.inside.parts { queue = c.push_reserved.new.self }) c.self.inside.grants c.args.party c.args.client.now Join c.self.view_is c.self.invariant c.requires.party c.requires.fits
    (ap (λ (qs : List Queuer). record (state_of c.self.inside.parts) { queue = qs }) c.push_reserved.ensures.items)
    c.self.invariant.counted
    (λ e. (e, refl))
    (record { parties = refl; table = refl; queue = c.push_reserved.ensures.capacity; reserves = refl; maxes = refl })
