use Rattle.std.proofs.Common.{◌≡◌, ◌<◌, ℕ, Some, None, length, get_or, set, filter, rules, arith, ap, sym, ◌∙◌, subst}
use Rattle.std.proofs.lemmas.List.{length-map, length-set}
use Rattle.linger_clock.specs.Deadlines.{Deadlines}
use Rattle.linger_table.specs.Slots.{SlotList, entries_in, mark_in}
use Rattle.linger_table.specs.Table.{stays_at}
use Rattle.linger_table.proofs.Entries.{slot_read, slot_within}
use Rattle.linger_table.proofs.Ties.{all_stay, emptied_tied, entry_over, slot_over}
use Rattle.linger_table.proofs.slots.Slots.let_one_go.Goals as goal

pub index-requires : goal.index-requires
index-requires c =
    let (l, here, over) = slot_over c.self.inside.slots.items c.self.inside.marks.items c.self.inside.len c.self.inside.clock c.args.now c.in-Some.owner c.self.invariant.tied (sym c.settle.ensures.first ∙ c.in-Some.is) in
    let within : c.in-Some.owner < length c.self.inside.slots.items = slot_within c.self.inside.slots.items c.in-Some.owner l here in
    search (rules, within)

pub unreachable-requires : goal.unreachable-requires
unreachable-requires c =
    let (l, here, over) = slot_over c.self.inside.slots.items c.self.inside.marks.items c.self.inside.len c.self.inside.clock c.args.now c.in-Some.owner c.self.invariant.tied (sym c.settle.ensures.first ∙ c.in-Some.is) in
    let never : Some l ≡ None = sym here ∙ slot_read c.self.inside.slots.items c.in-Some.owner c.index.result.now (slot_within c.self.inside.slots.items c.in-Some.owner l here) c.index.ensures ∙ c.in_default.is in
    cc

pub index_mut-requires : goal.index_mut-requires
index_mut-requires c =
    let (l, here, over) = slot_over c.self.inside.slots.items c.self.inside.marks.items c.self.inside.len c.self.inside.clock c.args.now c.in-Some.owner c.self.invariant.tied (sym c.settle.ensures.first ∙ c.in-Some.is) in
    let within : c.in-Some.owner < length c.self.inside.slots.items = slot_within c.self.inside.slots.items c.in-Some.owner l here in
    search (rules, within)

pub index_mut-requires-in-Some : goal.index_mut-requires-in-Some
index_mut-requires-in-Some c =
    let (l, here, over) = slot_over c.self.inside.slots.items c.self.inside.marks.items c.self.inside.len c.self.inside.clock c.args.now c.in-Some.owner c.self.invariant.tied (sym c.settle.ensures.first ∙ c.in-Some.is) in
    let within : c.in-Some.owner < length c.self.inside.marks.items =
    omega (arith, slot_within c.self.inside.slots.items c.in-Some.owner l here, ap length c.self.invariant.tied.marked, length-map c.self.inside.slots.items mark_in) in
    search (rules, within)

pub invariant_of-self-in-Some : goal.invariant_of-self-in-Some
invariant_of-self-in-Some c =
    let (l, here, over) = slot_over c.self.inside.slots.items c.self.inside.marks.items c.self.inside.len c.self.inside.clock c.args.now c.in-Some.owner c.self.invariant.tied (sym c.settle.ensures.first ∙ c.in-Some.is) in
    record {
      tied = emptied_tied c.self.inside.slots.items c.self.inside.marks.items c.self.inside.len c.self.inside.clock c.settle.new.self c.in-Some.owner l c.self.invariant.tied here c.in-Some.ensures.taken c.settle.ensures.kept;
      same_room = ap (λ (d : Deadlines). d.room) c.in-Some.ensures.taken ∙ c.self.invariant.same_room;
      long = omega (arith, c.self.invariant.long, length-set c.self.inside.slots.items c.in-Some.owner None);
      slot_space = c.self.invariant.slot_space;
      mark_space = c.self.invariant.mark_space;
      few = c.self.invariant.few;
    }

pub returns-in-None-clause-all_stay : goal.returns-in-None-clause-all_stay
returns-in-None-clause-all_stay c =
    subst (λ (s : SlotList). filter (stays_at c.args.now) (entries_in s.slots) ≡ entries_in s.slots) c.self.view_is
    (all_stay c.self.inside.slots.items c.self.inside.marks.items c.self.inside.len c.self.inside.clock c.args.now c.self.invariant.tied (sym c.settle.ensures.first ∙ c.in-None.is))

pub returns-in-Some-index-clause-gone : goal.returns-in-Some-index-clause-gone
returns-in-Some-index-clause-gone c =
    let (l, there, over) = slot_over c.self.inside.slots.items c.self.inside.marks.items c.self.inside.len c.self.inside.clock c.args.now c.in-Some.owner c.self.invariant.tied (sym c.settle.ensures.first ∙ c.in-Some.is) in
    let here : get_or c.self.inside.slots.items c.in-Some.owner None ≡ Some c.in-Some-index.entry =
    slot_read c.self.inside.slots.items c.in-Some.owner c.index.result.now (slot_within c.self.inside.slots.items c.in-Some.owner l there) c.index.ensures ∙ c.in-Some-index.is in (
      c.in-Some.owner,
      subst (λ (s : SlotList). get_or s.slots c.in-Some.owner None ≡ Some c.in-Some-index.entry) c.self.view_is here,
      ap (empties c.in-Some.owner) c.self.view_is,
    )
  where
    empties : ℕ → SlotList → SlotList
    empties at s = record s { slots = set s.slots at None }

pub returns-in-Some-index-clause-over : goal.returns-in-Some-index-clause-over
returns-in-Some-index-clause-over c =
    let (l, there, over) = slot_over c.self.inside.slots.items c.self.inside.marks.items c.self.inside.len c.self.inside.clock c.args.now c.in-Some.owner c.self.invariant.tied (sym c.settle.ensures.first ∙ c.in-Some.is) in
    let here : get_or c.self.inside.slots.items c.in-Some.owner None ≡ Some c.in-Some-index.entry =
    slot_read c.self.inside.slots.items c.in-Some.owner c.index.result.now (slot_within c.self.inside.slots.items c.in-Some.owner l there) c.index.ensures ∙ c.in-Some-index.is in
    entry_over c.self.inside.slots.items c.self.inside.marks.items c.self.inside.len c.self.inside.clock c.args.now c.in-Some.owner c.in-Some-index.entry c.self.invariant.tied (sym c.settle.ensures.first ∙ c.in-Some.is) here
