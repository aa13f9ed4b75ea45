use Rattle.std.proofs.Common.{◌≡◌, ◌<◌, Some, None, length, get_or, arith, ap, sym, ◌∙◌, subst}
use Rattle.std.proofs.lemmas.List.{length-set}
use Rattle.linger_clock.specs.Deadlines.{Deadlines}
use Rattle.linger_table.specs.Slots.{SlotList}
use Rattle.linger_table.proofs.Ties.{filled_tied}
use Rattle.linger_table.proofs.slots.Slots.put.Goals as goal

pub invariant_of-self : goal.invariant_of-self
invariant_of-self c =
    let empty : get_or c.self.inside.slots.items c.args.at None ≡ None = subst (λ (s : SlotList). get_or s.slots c.args.at None ≡ None) (sym c.self.view_is) c.requires.empty in
    let within : c.args.at < length c.self.inside.slots.items = subst (λ (s : SlotList). c.args.at < length s.slots) (sym c.self.view_is) c.requires.within in
    record {
      tied = filled_tied c.self.inside.slots.items c.self.inside.marks.items c.self.inside.len c.self.inside.clock c.add.new.self c.args.at c.args.entry.now c.mark_of.result c.self.invariant.tied empty within c.mark_of.ensures c.in-Ok.ensures.added c.add.ensures.kept;
      same_room = ap (λ (d : Deadlines). d.room) c.in-Ok.ensures.added ∙ c.self.invariant.same_room;
      long = omega (arith, c.self.invariant.long, length-set c.self.inside.slots.items c.args.at (Some c.args.entry.now));
      slot_space = c.self.invariant.slot_space;
      mark_space = c.self.invariant.mark_space;
      few = c.self.invariant.few;
    }
