use Rattle.kex_gate.proofs.Calls.{clears_bit}
use Rattle.kex_gate.proofs.gated.GatedSeats.clear.Goals as goal

pub store-requires : goal.store-requires
store-requires c = clears_bit _ _ _ _ _ _ _ _ c.self.invariant c.self.view_is c.requires.own c.requires.seats c.requires.session.role _ _ _ _ c.requires.clearing.1 c.requires.clearing.0 c.bit_word.ensures
