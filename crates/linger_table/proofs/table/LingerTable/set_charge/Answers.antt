use Rattle.std.proofs.Common.{◌≡◌, ◌<◌, length, set, slice_get, sym, subst}
use Rattle.std.specs.Prelude.{IfSome}
use Rattle.linger_table.specs.Slots.{entries_in}
use Rattle.linger_table.specs.Table.{LingeringList}
use Rattle.linger_table.proofs.Entries.{has_some}
use Rattle.linger_table.proofs.Seen.{charge_changed, seen, slot_at}
use Rattle.linger_table.proofs.table.LingerTable.set_charge.Goals as goal

pub set_charge-requires : goal.set_charge-requires
set_charge-requires c =
    let less : c.args.at < length (entries_in c.self.inside.slots.slots) = subst (λ (t : LingeringList). c.args.at < length t.entries) (sym c.self.view_is) c.requires in
    let (l, here) = slot_at c.self.inside.slots.slots c.args.at c.slot_of-slot.result c.slot_of-slot.ensures less in
    has_some c.self.inside.slots.slots c.slot_of-slot.result l here

pub returns : goal.returns
returns c =
    let less : c.args.at < length (entries_in c.self.inside.slots.slots) = subst (λ (t : LingeringList). c.args.at < length t.entries) (sym c.self.view_is) c.requires in
    subst (λ (t : LingeringList). IfSome (slice_get t.entries c.args.at) (λ l. seen c.set_charge.new.self ≡ record t { entries = set t.entries c.args.at (record l { charge = c.args.charge }) })) c.self.view_is
    (charge_changed c.self.inside.slots c.set_charge.new.self c.args.at c.slot_of-slot.result c.args.charge c.slot_of-slot.ensures less c.set_charge.ensures)
