use Rattle.std.proofs.Common.{◌≡◌, ◌+◌, Bool, cond, filter, subst}
use Rattle.std.specs.List.{count_by}
use Rattle.std.specs.Prelude.{IfSome}
use Rattle.options_machine.specs.declared.rows.Lingerer.{Lingerer}
use Rattle.linger_table.specs.Slots.{entries_in}
use Rattle.linger_table.specs.Table.{LingeringList, TakesOneOut, stays_at}
use Rattle.linger_table.proofs.Seen.{one_fewer, one_out, others_same}
use Rattle.linger_table.proofs.table.LingerTable.let_one_go.Goals as goal

pub returns-clause-taken_out : goal.returns-clause-taken_out
returns-clause-taken_out c =
    subst (λ (t : LingeringList). IfSome c.let_one_go.result (λ l. TakesOneOut l t.entries (entries_in c.let_one_go.new.self.slots))) c.self.view_is
    (one_out c.let_one_go.result c.self.inside.slots c.let_one_go.new.self c.let_one_go.ensures.gone)

pub returns-clause-fewer : goal.returns-clause-fewer
returns-clause-fewer c =
    subst (λ (t : LingeringList). IfSome c.let_one_go.result (λ l. (f : Lingerer → Bool) → count_by f (entries_in c.let_one_go.new.self.slots) + cond (f l) 1 0 ≡ count_by f t.entries)) c.self.view_is
    (one_fewer c.let_one_go.result (entries_in c.self.inside.slots.slots) (entries_in c.let_one_go.new.self.slots) (one_out c.let_one_go.result c.self.inside.slots c.let_one_go.new.self c.let_one_go.ensures.gone))

pub returns-clause-same : goal.returns-clause-same
returns-clause-same c =
    subst (λ (t : LingeringList). filter (stays_at c.args.now) (entries_in c.let_one_go.new.self.slots) ≡ filter (stays_at c.args.now) t.entries) c.self.view_is
    (others_same c.let_one_go.result c.args.now c.self.inside.slots c.let_one_go.new.self c.let_one_go.ensures.over c.let_one_go.ensures.gone c.let_one_go.ensures.none)
