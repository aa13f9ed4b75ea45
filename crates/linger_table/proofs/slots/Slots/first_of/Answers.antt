use Rattle.std.proofs.Common.{map, ap, sym, ◌∙◌}
use Rattle.std.specs.List.{position}
use Rattle.linger_table.specs.Slots.{SlotList, mark_in, slot_is_of}
use Rattle.linger_table.proofs.Firsts.{first_by_mark}
use Rattle.linger_table.proofs.slots.Slots.first_of.Goals as goal

pub returns : goal.returns
returns c =
    c.first_marked.ensures
    ∙ first_by_mark c.args.client.now c.as_slice.result.now c.as_slice-2.result.now c.mark_of.result (c.as_slice.ensures.value ∙ c.self.invariant.tied.marked ∙ ap (map mark_in) (sym c.as_slice-2.ensures.value)) c.mark_of.ensures
    ∙ ap (position (slot_is_of c.args.client.now)) c.as_slice-2.ensures.value
    ∙ ap (λ (s : SlotList). position (slot_is_of c.args.client.now) s.slots) c.self.view_is
