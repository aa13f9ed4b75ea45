use Rattle.std.proofs.Common.{◌≡◌, None, sym, ◌∙◌, subst}
use Rattle.std.specs.List.{find}
use Rattle.options_machine.specs.Decide.{is_left_by}
use Rattle.linger_table.specs.Table.{LingeringList}
use Rattle.linger_table.proofs.Firsts.{first_at, first_none}
use Rattle.linger_table.proofs.table.LingerTable.first.Goals as goal

pub returns-in-None : goal.returns-in-None
returns-in-None c =
    subst (λ (t : LingeringList). None ≡ find (is_left_by c.args.client.now) t.entries) c.self.view_is
    (sym (first_none c.args.client.now c.self.inside.slots.slots (sym c.first_of.ensures ∙ c.in-None.is)).0)

pub returns-in-Some : goal.returns-in-Some
returns-in-Some c =
    subst (λ (t : LingeringList). c.at.result ≡ find (is_left_by c.args.client.now) t.entries) c.self.view_is
    (c.at.ensures ∙ (first_at c.args.client.now c.self.inside.slots.slots c.in-Some.at (sym c.first_of.ensures ∙ c.in-Some.is)).1)
