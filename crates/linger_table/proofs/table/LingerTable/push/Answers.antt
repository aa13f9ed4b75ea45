use Rattle.std.proofs.Common.{◌≡◌, ◌<◌, ◌∷◌, [], ◌++◌, ℕ, None, Some, List, length, set, sym, ap, ◌∙◌, arith, subst}
use Rattle.options_machine.specs.declared.rows.Lingerer.{Lingerer}
use Rattle.linger_table.specs.Slots.{SlotList, entries_in}
use Rattle.linger_table.specs.Table.{LingeringList}
use Rattle.linger_table.proofs.Entries.{entries-grown, entries-pushed}
use Rattle.linger_table.proofs.Seen.{seen}
use Rattle.linger_table.proofs.table.LingerTable.push.Goals as goal

with_entry : Lingerer → LingeringList → LingeringList
with_entry l t = record t { entries = t.entries ++ l ∷ [] }

with_entries : LingeringList → List Lingerer → LingeringList
with_entries t xs = record t { entries = xs }

filled : ℕ → Lingerer → SlotList → SlotList
filled at l s = record s { slots = set s.slots at (Some l) }

both : (s t : SlotList) → s.room ≡ t.room → entries_in s.slots ≡ entries_in t.slots → seen s ≡ seen t
unfolding with_entries
both s t e f = ap (λ (n : ℕ). with_entries (record { room = n; entries = [] }) (entries_in s.slots)) e ∙ ap (with_entries (seen t)) f

pub put-requires-clause-room : goal.put-requires-clause-room
put-requires-clause-room c =
    let before : length (entries_in c.self.inside.slots.slots) < c.self.inside.slots.room = subst (λ (t : LingeringList). length t.entries < t.room) (sym c.self.view_is) c.requires in
    let way : length (entries_in c.make_way.new.slots.slots) < c.make_way.new.slots.room = omega (arith, before, ap length c.make_way.ensures.entries, c.make_way.ensures.room) in
    let grown : length (entries_in (c.make_way.new.slots.slots ++ None ∷ [])) < c.make_way.new.slots.room = omega (arith, way, ap length (entries-grown c.make_way.new.slots.slots)) in
    subst (λ (s : SlotList). length (entries_in s.slots) < s.room) (sym c.grow.ensures) grown

pub returns : goal.returns
unfolding with_entry with_entries filled
returns c =
    ap seen c.put.ensures
    ∙ ap (λ (s : SlotList). seen (filled c.count-at.result c.args.entry.now s)) c.grow.ensures
    ∙ ap (with_entries (seen c.make_way.new.slots)) (entries-pushed c.make_way.new.slots.slots c.args.entry.now c.count-at.result c.count-at.ensures.count)
    ∙ ap (with_entry c.args.entry.now) (both c.make_way.new.slots c.self.inside.slots c.make_way.ensures.room c.make_way.ensures.entries)
    ∙ ap (with_entry c.args.entry.now) c.self.view_is
