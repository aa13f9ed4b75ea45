use Rattle.std.proofs.Common.{◌≡◌, ◌≤◌, length, arith, sym, ap, ◌∙◌, subst}
use Rattle.std.proofs.lemmas.List.{length-take-le}
use Rattle.linger_table.specs.Slots.{HasNoneFrom, SlotList, entries_in}
use Rattle.linger_table.proofs.Entries.{entries-taken}
use Rattle.linger_table.proofs.Packs.{counts_packed, ends_packed}
use Rattle.linger_table.proofs.gaps.close_gaps.Goals as goal

pub shrink-requires : goal.shrink-requires
shrink-requires c =
    let end : c.loop-from.from ≡ length c.loop-from.slots.slots = omega (arith, c.loop-from.invariant.count, c.count-count.ensures.count) in
    ends_packed c.loop-from.to c.loop-from.from c.loop-from.slots.slots c.loop-from.invariant.behind end c.loop-from.invariant.packed

pub returns-clause-entries : goal.returns-clause-entries
returns-clause-entries c =
    let end : c.loop-from.from ≡ length c.loop-from.slots.slots = omega (arith, c.loop-from.invariant.count, c.count-count.ensures.count) in
    let none : HasNoneFrom c.loop-from.to c.loop-from.slots.slots = ends_packed c.loop-from.to c.loop-from.from c.loop-from.slots.slots c.loop-from.invariant.behind end c.loop-from.invariant.packed in
    ap (λ (s : SlotList). entries_in s.slots) c.shrink.ensures
    ∙ entries-taken c.loop-from.slots.slots c.loop-from.to none
    ∙ c.loop-from.invariant.entries

pub returns-clause-none_empty : goal.returns-clause-none_empty
returns-clause-none_empty c =
    let end : c.loop-from.from ≡ length c.loop-from.slots.slots = omega (arith, c.loop-from.invariant.count, c.count-count.ensures.count) in
    let none : HasNoneFrom c.loop-from.to c.loop-from.slots.slots = ends_packed c.loop-from.to c.loop-from.from c.loop-from.slots.slots c.loop-from.invariant.behind end c.loop-from.invariant.packed in
    let within : c.loop-from.to ≤ length c.loop-from.slots.slots = omega (arith, end, c.loop-from.invariant.behind) in
    let count : length (entries_in c.loop-from.slots.slots) ≡ c.loop-from.to = counts_packed c.loop-from.to c.loop-from.from c.loop-from.slots.slots c.loop-from.invariant.behind end c.loop-from.invariant.packed in
    subst (λ (s : SlotList). length s.slots ≡ length (entries_in s.slots)) (sym c.shrink.ensures)
    (length-take-le c.loop-from.to c.loop-from.slots.slots within ∙ sym count ∙ sym (ap length (entries-taken c.loop-from.slots.slots c.loop-from.to none)))
