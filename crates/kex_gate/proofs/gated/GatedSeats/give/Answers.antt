use Rattle.kex_gate.proofs.Calls.{gives_place}
use Rattle.kex_gate.proofs.gated.GatedSeats.give.Goals as goal

pub fetch_add-requires : goal.fetch_add-requires
fetch_add-requires c = gives_place _ _ _ _ _ _ _ _ c.self.invariant c.self.view_is c.requires.own c.requires.seats c.requires.session.role _ _ c.requires.giving
