use Rattle.kex_gate.proofs.Calls.{takes_place}
use Rattle.kex_gate.proofs.gated.GatedSeats.take.Goals as goal

pub fetch_sub-requires : goal.fetch_sub-requires
fetch_sub-requires c = takes_place _ _ _ _ _ _ _ _ c.self.invariant c.self.view_is c.requires.own c.requires.seats c.requires.session.role _ _ c.requires.free
