use Rattle.std.proofs.Common.{◌∙◌, ap}
use Rattle.kex_gate.specs.Steps.{Self, index_of}
use Rattle.kex_gate.proofs.Calls.{takes_pass, same_id, in_hand}
use Rattle.kex_gate.proofs.gated.GatedSeats.pass_out.Goals as goal

pub load-requires : goal.load-requires
load-requires c = takes_pass _ _ _ _ _ _ _ _ c.self.invariant c.self.view_is c.requires.own c.requires.seats c.requires.session.role _ _ _ c.requires.taking.0

pub exchange-requires : goal.exchange-requires
exchange-requires c = let t = c.load.ensures in (
  t.0 ∙ same_id _ _ _ _ _ _ _ c.args.seat.now.me c.self.invariant c.self.view_is c.requires.own c.requires.seats c.requires.session.role,
  (_, in_hand c.load.new.seat.me.1 _ c.args.i _ _ (ap (λ (z : Self). z.1) t.2.1) (ap index_of c.requires.taking.0)),
)
