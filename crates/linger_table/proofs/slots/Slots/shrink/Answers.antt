use Rattle.std.proofs.Common.{length, arith, ap, sym, subst}
use Rattle.std.proofs.lemmas.List.{length-take}
use Rattle.linger_table.specs.Slots.{HasNoneFrom, SlotList}
use Rattle.linger_table.proofs.Ties.{taken_tied}
use Rattle.linger_table.proofs.slots.Slots.shrink.Goals as goal

pub invariant_of-self : goal.invariant_of-self
invariant_of-self c = record {
  tied = taken_tied c.self.inside.slots.items c.truncate.new.self.items c.self.inside.marks.items c.truncate-2.new.self.items c.self.inside.len c.args.to c.self.inside.clock c.self.invariant.tied (subst (λ (s : SlotList). HasNoneFrom c.args.to s.slots) (sym c.self.view_is) c.requires) c.truncate.ensures.items c.truncate-2.ensures.items;
  same_room = c.self.invariant.same_room;
  long = omega (arith, c.self.invariant.long, ap length c.truncate.ensures.items, length-take c.args.to c.self.inside.slots.items);
  slot_space = omega (arith, c.self.invariant.slot_space, c.truncate.ensures.capacity);
  mark_space = omega (arith, c.self.invariant.mark_space, c.truncate-2.ensures.capacity);
  few = c.self.invariant.few;
}
