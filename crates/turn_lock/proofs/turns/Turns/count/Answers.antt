use Rattle.std.proofs.Common.{arith, ap, ◌∙◌, sym}
use Rattle.turn_lock.proofs.Count.{counts_entry}
use Rattle.turn_lock.proofs.turns.Turns.count.Goals as goal

pub load-requires : goal.load-requires
load-requires g c = let r = c.requires.out in (
  c.requires.lock ∙ sym (ap (λ z. z.id.table) c.self.view_is),
  (let i = c.self.invariant in omega arith),
  rw c.requires.said (counts_entry _ _ g.V.Kept.run _ _ _ _ _ c.args.seat.now.me r.0 r.1 _ _ r.3 (rw c.requires.said at r.4) r.5),
)

pub returns-clause-counted : goal.returns-clause-counted
returns-clause-counted g c p t x at = c.load.ensures.2 p t _ at
