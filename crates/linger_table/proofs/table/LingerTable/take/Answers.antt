use Rattle.std.proofs.Common.{◌≡◌, List, sym, ap, ◌∙◌, subst}
use Rattle.lic_types.specs.declared.client.Client.{Client}
use Rattle.options_machine.specs.declared.rows.Lingerer.{Lingerer}
use Rattle.options_machine.specs.Decide.{is_left_by}
use Rattle.options_machine.specs.Settle.{without_first}
use Rattle.linger_table.specs.Table.{LingeringList}
use Rattle.linger_table.proofs.Firsts.{first_at, first_none}
use Rattle.linger_table.proofs.Seen.{seen}
use Rattle.linger_table.proofs.table.LingerTable.take.Goals as goal

with_entries : LingeringList → List Lingerer → LingeringList
with_entries t xs = record t { entries = xs }

without : Client → LingeringList → LingeringList
without client t = record t { entries = without_first (is_left_by client) t.entries }

pub clear-requires : goal.clear-requires
clear-requires c = (first_at c.args.client.now c.self.inside.slots.slots c.in-Some.at (sym c.first_of.ensures ∙ c.in-Some.is)).2

pub returns-in-Some : goal.returns-in-Some
unfolding with_entries without
returns-in-Some c =
    ap seen c.clear.ensures.slots
    ∙ ap (with_entries (seen c.self.inside.slots)) (first_at c.args.client.now c.self.inside.slots.slots c.in-Some.at (sym c.first_of.ensures ∙ c.in-Some.is)).0
    ∙ ap (without c.args.client.now) c.self.view_is

pub returns-in_default : goal.returns-in_default
unfolding with_entries
returns-in_default c =
    subst (λ (t : LingeringList). t ≡ record t { entries = without_first (is_left_by c.args.client.now) t.entries }) c.self.view_is
    (ap (with_entries (seen c.self.inside.slots)) (first_none c.args.client.now c.self.inside.slots.slots (sym c.first_of.ensures ∙ c.in_default.is)).1)
