use Rattle.seat_rows.proofs.Kept.{made_kept, made_seen}
use Rattle.seat_rows.proofs.SeatRows.make.Goals as goal

pub invariant_of-result : goal.invariant_of-result
invariant_of-result c = made_kept c.in_ok-rows.rows.items c.in_ok-beats.beats c.args.parties c.in_ok-rows.ensures c.requires c.in_ok-beats.ensures

pub returns : goal.returns
returns c = made_seen c.in_ok-rows.rows.items c.args.parties c.in_ok-rows.ensures
