use Rattle.std.proofs.Common.{◌*◌, ◌<◌, ◌∷◌, [], None, length, arith, ap, sym, subst, length-append}
use Rattle.linger_table.specs.Slots.{SlotList}
use Rattle.linger_table.proofs.Ties.{grown_tied}
use Rattle.linger_table.proofs.slots.Slots.grow.Goals as goal

pub invariant_of-self : goal.invariant_of-self
invariant_of-self c =
    let less : length c.self.inside.slots.items < 2 * c.self.inside.room = subst (λ (s : SlotList). length s.slots < 2 * s.room) (sym c.self.view_is) c.requires in
    record {
      tied = grown_tied c.self.inside.slots.items c.push_reserved.new.self.items c.self.inside.marks.items c.push_reserved-2.new.self.items c.self.inside.len c.self.inside.clock c.self.invariant.tied c.push_reserved.ensures.items c.push_reserved-2.ensures.items;
      same_room = c.self.invariant.same_room;
      long = omega (arith, less, ap length c.push_reserved.ensures.items, length-append c.self.inside.slots.items (None ∷ []));
      slot_space = omega (arith, c.self.invariant.slot_space, c.push_reserved.ensures.capacity);
      mark_space = omega (arith, c.self.invariant.mark_space, c.push_reserved-2.ensures.capacity);
      few = c.self.invariant.few;
    }
