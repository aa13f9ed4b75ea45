use Rattle.std.proofs.Common.{◌<◌, arith, false, length, refl, subst, sym}
use Rattle.options_machine.specs.Rules.{Rules}
use Rattle.policy.proofs.Books.{set_is}
use Rattle.seat_counters.specs.Counts.{HasRoomFor}
use Rattle.seat_book.specs.Books.{BookWithGrants}
use Rattle.seat_book.proofs.Books.{book_few, book_reread, book_short}
use Rattle.seat_book.proofs.book.BookRows.reread.Goals as goal

pub charge_anew-requires : goal.charge_anew-requires
charge_anew-requires c =
    let below : c.args.set < length c.self.inside.sets.items = subst (λ (b : BookWithGrants). c.args.set < length b.sets) (sym c.self.view_is) c.requires in
    record {
      room = subst (λ (r : Rules). HasRoomFor r c.self.inside.parts.counters) (sym (set_is c.self.inside.sets.items c.args.set c.index.result.now below c.index.ensures)) (c.self.invariant.room.lines c.args.set below);
      holders = omega (arith, book_short c.self.inside.sets.items c.self.inside.parts c.self.invariant);
      few = book_few c.self.inside.sets.items c.self.inside.parts c.self.invariant;
    }

pub invariant_of-self : goal.invariant_of-self
invariant_of-self c =
    let below : c.args.set < length c.self.inside.sets.items = subst (λ (b : BookWithGrants). c.args.set < length b.sets) (sym c.self.view_is) c.requires in
    book_reread c.self.inside.sets.items c.self.inside.parts (record c.charge_anew.new.parts { is_served = false }) c.index.result.now c.args.set c.self.invariant below c.index.ensures c.charge_anew.ensures.state c.charge_anew.ensures.counted refl
    (record { parties = c.charge_anew.ensures.room.parties; table = c.charge_anew.ensures.room.table; queue = c.charge_anew.ensures.room.queue; reserves = c.charge_anew.ensures.room.reserves; maxes = c.charge_anew.ensures.room.maxes })
