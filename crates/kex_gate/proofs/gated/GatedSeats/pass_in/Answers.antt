use Rattle.kex_gate.proofs.Calls.{gives_back}
use Rattle.kex_gate.proofs.gated.GatedSeats.pass_in.Goals as goal

pub load-requires : goal.load-requires
load-requires c = let e = c.exchange-before.ensures in
    gives_back _ _ _ _ _ _ _ _ c.self.invariant c.self.view_is c.requires.own c.requires.seats c.requires.session.role _ _ c.args.pass _ _ _ _ e.0 e.3 c.requires.fast.0 c.requires.fast.1 c.requires.pass
