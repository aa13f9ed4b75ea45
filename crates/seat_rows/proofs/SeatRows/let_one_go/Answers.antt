use Rattle.std.proofs.Common.{◌∙◌}
use Rattle.seat_rows.proofs.Kept.{gone_counts, gone_fewer, gone_seat, gone_seen, gone_silent, gone_stay, heard_seen, if_none, not_none, silent_kept, silent_read, some_held}
use Rattle.seat_rows.proofs.SeatRows.let_one_go.Goals as goal

pub returns-in_err-party-clause-heard : goal.returns-in_err-party-clause-heard
returns-in_err-party-clause-heard c =
    if_none c.from_residual.result _ (heard_seen c.args.self.now c.self.inside.rows.items c.as_slice.result.now c.next_silent.new.beats c.args.over c.self.view_is c.as_slice.ensures.value c.in_err-party.ensures.marked c.in_err-party.ensures.none)

pub overflow_sub-self : goal.overflow_sub-self
overflow_sub-self c =
    let (h, s) = silent_read c.self.inside.rows.items c.as_slice.result.now c.self.inside.held c.self.inside.beats c.args.over c.in_ok-party.party c.index_mut-row.result.now c.copied-gone.result c.clear.new.self c.self.invariant c.as_slice.ensures.value c.in_ok-party.ensures.silent c.index_mut-row.ensures.value (c.copied-gone.ensures ∙ c.holder.ensures) c.clear.ensures in
    some_held c.self.inside.rows.items c.self.inside.held c.self.inside.beats c.in_ok-party.party h c.self.invariant s.there

pub invariant_of-self-2 : goal.invariant_of-self-2
invariant_of-self-2 c =
    let (h, s) = silent_read c.self.inside.rows.items c.as_slice.result.now c.self.inside.held c.self.inside.beats c.args.over c.in_ok-party.party c.index_mut-row.result.now c.copied-gone.result c.clear.new.self c.self.invariant c.as_slice.ensures.value c.in_ok-party.ensures.silent c.index_mut-row.ensures.value (c.copied-gone.ensures ∙ c.holder.ensures) c.clear.ensures in
    silent_kept c.self.inside.rows.items c.as_slice.result.now c.self.inside.held c.self.inside.beats c.next_silent.new.beats c.args.over c.in_ok-party.party c.copied-gone.result c.clear.new.self h c.self.invariant c.as_slice.ensures.value s c.in_ok-party.ensures.long c.in_ok-party.ensures.others

pub returns-clause-seat : goal.returns-clause-seat
returns-clause-seat c =
    let (h, s) = silent_read c.self.inside.rows.items c.as_slice.result.now c.self.inside.held c.self.inside.beats c.args.over c.in_ok-party.party c.index_mut-row.result.now c.copied-gone.result c.clear.new.self c.self.invariant c.as_slice.ensures.value c.in_ok-party.ensures.silent c.index_mut-row.ensures.value (c.copied-gone.ensures ∙ c.holder.ensures) c.clear.ensures in
    gone_seat c.args.self.now c.self.inside.rows.items c.self.inside.held c.self.inside.beats c.args.over c.in_ok-party.party c.copied-gone.result c.clear.new.self h c.self.view_is c.self.invariant s

pub returns-clause-silent : goal.returns-clause-silent
returns-clause-silent c =
    let (h, s) = silent_read c.self.inside.rows.items c.as_slice.result.now c.self.inside.held c.self.inside.beats c.args.over c.in_ok-party.party c.index_mut-row.result.now c.copied-gone.result c.clear.new.self c.self.invariant c.as_slice.ensures.value c.in_ok-party.ensures.silent c.index_mut-row.ensures.value (c.copied-gone.ensures ∙ c.holder.ensures) c.clear.ensures in
    gone_silent c.self.inside.rows.items c.args.over c.in_ok-party.party c.copied-gone.result c.clear.new.self h s

pub returns-clause-gone : goal.returns-clause-gone
returns-clause-gone c =
    let (h, s) = silent_read c.self.inside.rows.items c.as_slice.result.now c.self.inside.held c.self.inside.beats c.args.over c.in_ok-party.party c.index_mut-row.result.now c.copied-gone.result c.clear.new.self c.self.invariant c.as_slice.ensures.value c.in_ok-party.ensures.silent c.index_mut-row.ensures.value (c.copied-gone.ensures ∙ c.holder.ensures) c.clear.ensures in
    gone_seen c.args.self.now c.self.inside.rows.items c.self.inside.held c.self.inside.beats c.args.over c.in_ok-party.party c.copied-gone.result c.clear.new.self h c.self.view_is c.self.invariant s

pub returns-clause-fewer : goal.returns-clause-fewer
returns-clause-fewer c =
    let (h, s) = silent_read c.self.inside.rows.items c.as_slice.result.now c.self.inside.held c.self.inside.beats c.args.over c.in_ok-party.party c.index_mut-row.result.now c.copied-gone.result c.clear.new.self c.self.invariant c.as_slice.ensures.value c.in_ok-party.ensures.silent c.index_mut-row.ensures.value (c.copied-gone.ensures ∙ c.holder.ensures) c.clear.ensures in
    gone_fewer c.args.self.now c.self.inside.rows.items c.args.over c.in_ok-party.party c.copied-gone.result c.clear.new.self h c.self.view_is s

pub returns-clause-counts : goal.returns-clause-counts
returns-clause-counts c =
    let (h, s) = silent_read c.self.inside.rows.items c.as_slice.result.now c.self.inside.held c.self.inside.beats c.args.over c.in_ok-party.party c.index_mut-row.result.now c.copied-gone.result c.clear.new.self c.self.invariant c.as_slice.ensures.value c.in_ok-party.ensures.silent c.index_mut-row.ensures.value (c.copied-gone.ensures ∙ c.holder.ensures) c.clear.ensures in
    gone_counts c.args.self.now c.self.inside.rows.items c.args.over c.in_ok-party.party c.copied-gone.result c.clear.new.self h c.self.view_is s

pub returns-clause-stay : goal.returns-clause-stay
returns-clause-stay c =
    let (h, s) = silent_read c.self.inside.rows.items c.as_slice.result.now c.self.inside.held c.self.inside.beats c.args.over c.in_ok-party.party c.index_mut-row.result.now c.copied-gone.result c.clear.new.self c.self.invariant c.as_slice.ensures.value c.in_ok-party.ensures.silent c.index_mut-row.ensures.value (c.copied-gone.ensures ∙ c.holder.ensures) c.clear.ensures in
    gone_stay c.args.self.now c.self.inside.rows.items c.args.over c.in_ok-party.party c.copied-gone.result c.clear.new.self h c.self.view_is s

pub returns-clause-heard : goal.returns-clause-heard
returns-clause-heard c =
    let (h, s) = silent_read c.self.inside.rows.items c.as_slice.result.now c.self.inside.held c.self.inside.beats c.args.over c.in_ok-party.party c.index_mut-row.result.now c.copied-gone.result c.clear.new.self c.self.invariant c.as_slice.ensures.value c.in_ok-party.ensures.silent c.index_mut-row.ensures.value (c.copied-gone.ensures ∙ c.holder.ensures) c.clear.ensures in
    not_none c.copied-gone.result h _ s.read
