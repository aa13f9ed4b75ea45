use Rattle.std.proofs.Common.{sym}
use Rattle.kex_gate.proofs.Calls.{gives_slow_place}
use Rattle.kex_gate.proofs.gated.GatedSeats.give_slow.Goals as goal

pub fetch_add-requires : goal.fetch_add-requires
fetch_add-requires g c = gives_slow_place _ _ _ _ _ _ _ _ c.self.invariant c.self.view_is c.requires.own c.requires.seats c.requires.session.role _ _ _ _ (sym c.requires.said) c.requires.slow
