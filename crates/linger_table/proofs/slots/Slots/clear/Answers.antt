use Rattle.std.proofs.Common.{None, get_or, arith, ap, sym, ◌∙◌, subst}
use Rattle.std.proofs.lemmas.List.{length-set}
use Rattle.linger_clock.specs.Deadlines.{Deadlines}
use Rattle.linger_table.specs.Slots.{HasEntry, SlotList, entries_in}
use Rattle.linger_table.proofs.Entries.{length-without_one, some_is, taken_out}
use Rattle.linger_table.proofs.Ties.{emptied_tied}
use Rattle.linger_table.proofs.slots.Slots.clear.Goals as goal

pub invariant_of-self : goal.invariant_of-self
invariant_of-self c =
    let (l, here) = some_is (get_or c.self.inside.slots.items c.args.at None) (subst (λ (s : SlotList). HasEntry s.slots c.args.at) (sym c.self.view_is) c.requires) in
    record {
      tied = emptied_tied c.self.inside.slots.items c.self.inside.marks.items c.self.inside.len c.self.inside.clock c.remove-until.new.self c.args.at l c.self.invariant.tied here c.remove-until.ensures.removed c.remove-until.ensures.kept;
      same_room = ap (λ (d : Deadlines). d.room) c.remove-until.ensures.removed ∙ c.self.invariant.same_room;
      long = omega (arith, c.self.invariant.long, length-set c.self.inside.slots.items c.args.at None);
      slot_space = c.self.invariant.slot_space;
      mark_space = c.self.invariant.mark_space;
      few = c.self.invariant.few;
    }

pub returns-clause-room : goal.returns-clause-room
returns-clause-room c =
    let (l, here) = some_is (get_or c.self.inside.slots.items c.args.at None) (subst (λ (s : SlotList). HasEntry s.slots c.args.at) (sym c.self.view_is) c.requires) in
    omega (arith, c.self.invariant.same_room, c.self.invariant.tied.clocked, c.self.invariant.tied.clock_kept.within, length-without_one l (entries_in c.self.inside.slots.items) _ (taken_out c.self.inside.slots.items c.args.at l here))
