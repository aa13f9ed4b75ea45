use Rattle.std.proofs.Common.{arith, ap, ◌∙◌, sym}
use Rattle.turn_lock.proofs.Watch.{watches}
use Rattle.turn_lock.proofs.turns.Turns.wait_turn.Goals as goal

pub load-serving-requires : goal.load-serving-requires
load-serving-requires g c = let i = c.loop.invariant in let j = i.1 c.requires.idle.0 c.requires.idle.1 in (
  i.0 ∙ (c.requires.lock ∙ sym (ap (λ z. z.id.table) c.self.view_is)),
  (let i = c.self.invariant in omega arith),
  watches _ _ _ _ _ _ _ _ _ c.requires.idle.0 j.0 (let i = c.self.invariant in omega arith) j.2,
)

pub returns-then-serving-ticket-clause-turn : goal.returns-then-serving-ticket-clause-turn
returns-then-serving-ticket-clause-turn g c p rest = let j = c.loop.invariant.1 p rest in
    (j.0, (c.load-serving.ensures.2 p j.0 j.2).0 (c.if-serving-ticket.true ∙ j.1))

pub loop-preserved : goal.loop-preserved
loop-preserved g c = let i = c.loop.invariant in let e = c.load-serving.ensures in (
  e.0 ∙ i.0,
  λ p rest. let j = i.1 p rest in (j.0, j.1, (e.2 p j.0 j.2).1 (λ hit. c.if-serving-ticket.false (hit ∙ sym j.1)) ∙ j.2),
)
