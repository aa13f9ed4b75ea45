use Rattle.std.proofs.Common.{◌≡◌, ◌<◌, length, rules, arith, sym, subst}
use Rattle.linger_table.specs.Slots.{SlotList, entries_in, slot_of}
use Rattle.linger_table.proofs.Places.{slot_of-whole}
use Rattle.linger_table.proofs.slots.Slots.slot_of.Goals as goal

pub returns-then-self-len : goal.returns-then-self-len
returns-then-self-len c =
    let less : c.args.place < length (entries_in c.self.inside.slots.items) = subst (λ (s : SlotList). c.args.place < length (entries_in s.slots)) (sym c.self.view_is) c.requires in
    let all : c.self.inside.slots.len ≡ length c.self.inside.slots.items = search rules in
    let whole : length (entries_in c.self.inside.slots.items) ≡ length c.self.inside.slots.items = omega (arith, c.self.invariant.tied.counted, c.if-self-len.true, c.len.ensures, all) in
    subst (λ (s : SlotList). c.args.place ≡ slot_of s.slots c.args.place) c.self.view_is (sym (slot_of-whole c.self.inside.slots.items c.args.place whole less))
