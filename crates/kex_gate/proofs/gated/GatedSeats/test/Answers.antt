use Rattle.kex_gate.proofs.Calls.{tests_bit}
use Rattle.kex_gate.proofs.gated.GatedSeats.test.Goals as goal

pub swap-bit-requires : goal.swap-bit-requires
swap-bit-requires c = tests_bit _ _ _ _ _ _ _ _ c.self.invariant c.self.view_is c.requires.own c.requires.seats c.requires.session.role _ _ _ _ c.requires.testing.1 c.requires.testing.0 c.bit_word.ensures
