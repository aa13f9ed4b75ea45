use Rattle.seat_names.proofs.Dealt.{dealt_own}
use Rattle.seat_names.proofs.seats.Seats.make.Goals as goal

pub returns-clause-own : goal.returns-clause-own
returns-clause-own c = dealt_own _ _ c.in_ok-table.ensures.passes
