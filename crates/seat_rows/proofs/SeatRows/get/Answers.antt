use Rattle.std.proofs.Common.{◌∙◌}
use Rattle.seat_rows.proofs.Kept.{seat_is, sound}
use Rattle.seat_rows.proofs.SeatRows.get.Goals as goal

pub returns-clause-seat : goal.returns-clause-seat
returns-clause-seat c =
    c.holder.ensures ∙ seat_is c.args.self.now c.self.inside.rows.items c.self.inside.held c.self.inside.beats c.args.party c.index.result.now c.self.view_is c.self.invariant c.requires c.index.ensures

pub returns-clause-kept : goal.returns-clause-kept
returns-clause-kept c = sound c.args.self.now c.self.inside.rows.items c.self.inside.held c.self.inside.beats c.self.view_is c.self.invariant
