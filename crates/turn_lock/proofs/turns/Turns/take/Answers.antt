use Rattle.std.proofs.Common.{arith, ap, ◌∙◌, sym}
use Rattle.turn_lock.proofs.Take.{takes_out}
use Rattle.turn_lock.proofs.turns.Turns.take.Goals as goal

pub load-requires : goal.load-requires
load-requires g c = let r = c.requires.turn in
    (c.requires.lock ∙ sym (ap (λ z. z.id.table) c.self.view_is), (let i = c.self.invariant in omega arith), takes_out _ _ g.V.Kept.run g.V.Kept.stands _ _ _ _ _ r.0 r.1 r.2)

pub returns-clause-took : goal.returns-clause-took
returns-clause-took g c p t at = c.load.ensures.2 p t at
