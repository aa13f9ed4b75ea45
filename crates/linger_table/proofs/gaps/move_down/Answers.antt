use Rattle.std.proofs.Common.{◌<◌, ◌≢◌, ◌-◌, ◌+◌, None, Some, get_or, set, arith, sym, ap, ◌∙◌, subst}
use Rattle.std.proofs.lemmas.List.{get_or-set_other}
use Rattle.linger_table.specs.Slots.{IsPacked, SlotList, entries_in}
use Rattle.linger_table.proofs.Packs.{first_empty, grows_packed, moves_packed, stays_packed}
use Rattle.linger_table.proofs.gaps.move_down.Goals as goal

pub returns-in_default-clause-packed : goal.returns-in_default-clause-packed
returns-in_default-clause-packed c =
    stays_packed c.args.to c.args.from c.args.slots.now.slots c.requires.behind c.requires.within c.requires.packed (sym c.at.ensures ∙ c.in_default.is)

pub returns-then-to-from-clause-packed : goal.returns-then-to-from-clause-packed
returns-then-to-from-clause-packed c =
    grows_packed c.args.to c.args.from c.args.slots.now.slots c.in-Some.entry c.if-to-from.true c.requires.packed (sym c.at.ensures ∙ c.in-Some.is)

pub put-requires-clause-empty : goal.put-requires-clause-empty
put-requires-clause-empty c =
    let less : c.args.to < c.args.from = omega arith in
    let other : c.args.to ≢ c.args.from = omega arith in
    ap (λ (s : SlotList). get_or s.slots c.args.to None) c.clear.ensures.slots
    ∙ get_or-set_other c.args.slots.now.slots c.args.from c.args.to None None other
    ∙ first_empty c.args.to c.args.from c.args.slots.now.slots less c.requires.packed

pub returns-clause-entries : goal.returns-clause-entries
returns-clause-entries c =
    let less : c.args.to < c.args.from = omega arith in
    ap (λ (s : SlotList). entries_in s.slots) c.put.ensures
    ∙ ap (λ (s : SlotList). entries_in (set s.slots c.args.to (Some c.in-Some.entry))) c.clear.ensures.slots
    ∙ (moves_packed c.args.to c.args.from c.args.slots.now.slots c.in-Some.entry less c.requires.packed (sym c.at.ensures ∙ c.in-Some.is)).1

pub returns-clause-packed : goal.returns-clause-packed
returns-clause-packed c =
    let less : c.args.to < c.args.from = omega arith in
    subst (λ (s : SlotList). IsPacked (c.args.to + 1) (c.args.from + 1 - (c.args.to + 1)) s.slots) (sym c.put.ensures)
    (subst (λ (s : SlotList). IsPacked (c.args.to + 1) (c.args.from + 1 - (c.args.to + 1)) (set s.slots c.args.to (Some c.in-Some.entry))) (sym c.clear.ensures.slots)
    (moves_packed c.args.to c.args.from c.args.slots.now.slots c.in-Some.entry less c.requires.packed (sym c.at.ensures ∙ c.in-Some.is)).0)
