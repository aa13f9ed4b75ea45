use Rattle.std.proofs.Common.{refl, arith, ap, ◌∙◌, sym}
use Rattle.turn_lock.proofs.Give.{gives_back}
use Rattle.turn_lock.proofs.Next.{passes_on}
use Rattle.turn_lock.proofs.turns.Turns.give.Goals as goal

pub load-requires : goal.load-requires
load-requires g c = let r = c.requires.counted in (
  c.requires.lock ∙ sym (ap (λ z. z.id.table) c.self.view_is),
  (let i = c.self.invariant in omega arith),
  gives_back _ _ g.V.Kept.run _ _ _ _ _ _ r.0 r.1 _ r.2 r.3 refl r.4 r.5,
)

pub fetch_add-requires : goal.fetch_add-requires
fetch_add-requires g c = let r = c.requires.counted in (
  c.load.ensures.0 ∙ (c.requires.lock ∙ sym (ap (λ z. z.id.table) c.self.view_is)),
  (let i = c.self.invariant in omega arith),
  passes_on _ _ _ _ _ _ _ _ _ r.0 r.1 (c.load.ensures.2 r.0 r.1 _ r.3),
)

pub returns-clause-idle : goal.returns-clause-idle
returns-clause-idle g c p t x at = c.fetch_add.ensures.2 p t (c.load.ensures.2 p t _ at)
