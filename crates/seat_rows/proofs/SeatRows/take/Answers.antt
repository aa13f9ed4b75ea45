use Rattle.std.proofs.Common.{◌∙◌, sym}
use Rattle.seat_rows.proofs.Kept.{given_kept, none_of, row_is, some_of, some_held, take_seen}
use Rattle.seat_rows.proofs.SeatRows.take.Goals as goal

pub overflow_sub-self : goal.overflow_sub-self
overflow_sub-self c =
    let (h, some) = some_of c.holder.result c.index_mut-row.result.now c.holder.ensures (sym c.is_some.ensures ∙ c.if-is_some.true) in
    some_held c.self.inside.rows.items c.self.inside.held c.self.inside.beats c.args.party h c.self.invariant
    (row_is c.args.self.now c.self.inside.rows.items c.args.party c.index_mut-row.result.now c.self.view_is c.requires c.index_mut-row.ensures.value ∙ some)

pub invariant_of-self : goal.invariant_of-self
invariant_of-self c =
    let (h, some) = some_of c.holder.result c.index_mut-row.result.now c.holder.ensures (sym c.is_some.ensures ∙ c.if-is_some.true) in
    rw c.clear.ensures (given_kept c.self.inside.rows.items c.self.inside.held c.self.inside.beats c.args.party h c.self.invariant
    (row_is c.args.self.now c.self.inside.rows.items c.args.party c.index_mut-row.result.now c.self.view_is c.requires c.index_mut-row.ensures.value ∙ some))

pub returns-then-is_some : goal.returns-then-is_some
returns-then-is_some c = rw c.clear.ensures (take_seen c.args.self.now c.self.inside.rows.items c.self.inside.held c.self.inside.beats c.args.party c.self.view_is c.self.invariant)

pub returns-else-is_some : goal.returns-else-is_some
returns-else-is_some c =
    rw (none_of c.holder.result c.index_mut-row.result.now c.holder.ensures (sym c.is_some.ensures ∙ c.if-is_some.false))
    (take_seen c.args.self.now c.self.inside.rows.items c.self.inside.held c.self.inside.beats c.args.party c.self.view_is c.self.invariant)
