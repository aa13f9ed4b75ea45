use Rattle.std.proofs.Common.{List, ap, refl}
use Rattle.options_machine.specs.declared.effect.Effect.TheVariants.{Unqueue}
use Rattle.options_machine.specs.declared.rows.Queuer.{Queuer}
use Rattle.seat_book.specs.Parts.{state_of}
use Rattle.seat_book.proofs.Books.{book_changed}
use Rattle.seat_book.proofs.book.BookRows.unqueue.Goals as goal

pub invariant_of-self : goal.invariant_of-self
invariant_of-self c =
    book_changed c.args.self.now c.self.inside.sets.items c.self.inside.parts (record c.self.inside.parts { queue = c.drop_queuer.new.queue }) c.self.inside.grants c.args.party c.requires.waits.1.0.client Unqueue c.self.view_is c.self.invariant c.requires.party c.requires.waits
    (ap (λ (qs : List Queuer). record (state_of c.self.inside.parts) { queue = qs }) c.drop_queuer.ensures.items)
    c.self.invariant.counted
    (λ e. (e, refl))
    (record { parties = refl; table = refl; queue = c.drop_queuer.ensures.capacity; reserves = refl; maxes = refl })
