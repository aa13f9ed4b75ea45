use Rattle.seat_rows.proofs.Kept.{sound}
use Rattle.seat_rows.proofs.SeatRows.parties.Goals as goal

pub returns-clause-kept : goal.returns-clause-kept
returns-clause-kept c = sound c.args.self.now c.self.inside.rows.items c.self.inside.held c.self.inside.beats c.self.view_is c.self.invariant
