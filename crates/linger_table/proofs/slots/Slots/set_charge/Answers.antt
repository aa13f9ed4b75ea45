use Rattle.std.proofs.Common.{◌≡◌, Some, None, get_or, arith, sym, ◌∙◌, subst}
use Rattle.std.proofs.lemmas.List.{length-set}
use Rattle.linger_table.specs.Slots.{HasEntry, SlotList}
use Rattle.linger_table.proofs.Entries.{slot_read, slot_within, some_is}
use Rattle.linger_table.proofs.Ties.{changed_tied}
use Rattle.linger_table.proofs.slots.Slots.set_charge.Goals as goal

pub invariant_of-self : goal.invariant_of-self
invariant_of-self c =
    let (l, there) = some_is (get_or c.self.inside.slots.items c.args.at None) (subst (λ (s : SlotList). HasEntry s.slots c.args.at) (sym c.self.view_is) c.requires) in
    let here : get_or c.self.inside.slots.items c.args.at None ≡ Some c.in-Some.entry = slot_read c.self.inside.slots.items c.args.at c.index.result.now (slot_within c.self.inside.slots.items c.args.at l there) c.index.ensures ∙ c.in-Some.is in
    record {
      tied = changed_tied c.self.inside.slots.items c.self.inside.marks.items c.self.inside.len c.self.inside.clock c.args.at c.in-Some.entry c.args.charge c.self.invariant.tied here;
      same_room = c.self.invariant.same_room;
      long = omega (arith, c.self.invariant.long, length-set c.self.inside.slots.items c.args.at (Some (record c.in-Some.entry { charge = c.args.charge })));
      slot_space = c.self.invariant.slot_space;
      mark_space = c.self.invariant.mark_space;
      few = c.self.invariant.few;
    }
