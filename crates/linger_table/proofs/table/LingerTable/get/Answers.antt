use Rattle.std.proofs.Common.{◌≡◌, ◌<◌, ◌≤◌, None, length, slice_get, sym, ◌∙◌, arith, subst}
use Rattle.linger_table.specs.Slots.{entries_in}
use Rattle.linger_table.specs.Table.{LingeringList}
use Rattle.linger_table.proofs.Entries.{slot_within}
use Rattle.linger_table.proofs.Places.{nothing_there}
use Rattle.linger_table.proofs.Seen.{entry_at, slot_at}
use Rattle.linger_table.proofs.table.LingerTable.get.Goals as goal

pub at-requires : goal.at-requires
at-requires c =
    let less : c.args.at < length (entries_in c.self.inside.slots.slots) = omega (arith, c.if-at-len.true, c.len.ensures.len) in
    let (l, here) = slot_at c.self.inside.slots.slots c.args.at c.slot_of.result c.slot_of.ensures less in
    slot_within c.self.inside.slots.slots c.slot_of.result l here

pub returns-then-at-len : goal.returns-then-at-len
returns-then-at-len c =
    subst (λ (t : LingeringList). c.at.result ≡ slice_get t.entries c.args.at) c.self.view_is
    (c.at.ensures ∙ entry_at c.self.inside.slots.slots c.args.at c.slot_of.result c.slot_of.ensures)

pub returns-else-at-len : goal.returns-else-at-len
returns-else-at-len c =
    let past : length (entries_in c.self.inside.slots.slots) ≤ c.args.at = omega (arith, c.if-at-len.false, c.len.ensures.len) in
    subst (λ (t : LingeringList). None ≡ slice_get t.entries c.args.at) c.self.view_is
    (sym (nothing_there (entries_in c.self.inside.slots.slots) c.args.at past))
