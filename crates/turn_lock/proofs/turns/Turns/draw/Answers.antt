use Rattle.std.proofs.Common.{arith, ap, ◌∙◌, sym, refl}
use Rattle.turn_lock.proofs.Claim.{claims}
use Rattle.turn_lock.proofs.Ticket.{draws}
use Rattle.turn_lock.proofs.turns.Turns.draw.Goals as goal
use Rattle.turn_lock.proofs.turns.Turns.draw.Goals.{then-peek-serving+else-found-serving, else-peek-serving}

pub compare_exchange-found-requires : goal.compare_exchange-found-requires
compare_exchange-found-requires g c = let i = c.loop-round.invariant in (
  i.0 ∙ (c.requires.lock ∙ sym (ap (λ z. z.id.table) c.self.view_is)),
  (let k = c.self.invariant in omega arith),
  claims _ _ _ _ _ _ _ _ _ _ _ c.requires.idle.0 refl (i.1 ∙ c.requires.idle.1),
)

pub returns-then-found-serving-clause-drawn : goal.returns-then-found-serving-clause-drawn
returns-then-found-serving-clause-drawn g c p rest = let d = (c.compare_exchange-found.ensures.2 p (c.loop-round.invariant.1 ∙ rest)).0 c.if-found-serving.true in
    (d.0, sym c.if-found-serving.true ∙ d.1, d.2)

pub loop-round-preserved : goal.loop-round-preserved
loop-round-preserved g c = let i = c.loop-round.invariant in elim c.if-peek-serving.branch [
  | then-peek-serving+else-found-serving w ↦ let e = w.compare_exchange-found.ensures in (
    ap (λ z. z.table_id) w.seat-is ∙ (e.0 ∙ i.0),
    ap (λ z. z.me) w.seat-is ∙ ((e.2 c.requires.idle.0 (i.1 ∙ c.requires.idle.1)).1 w.if-found-serving.false ∙ i.1),
  )
  | else-peek-serving w ↦ (ap (λ z. z.table_id) w.seat-is ∙ i.0, ap (λ z. z.me) w.seat-is ∙ i.1)
]

pub fetch_add-requires : goal.fetch_add-requires
fetch_add-requires g c = let i = c.loop-round.invariant in (
  i.0 ∙ (c.requires.lock ∙ sym (ap (λ z. z.id.table) c.self.view_is)),
  (let k = c.self.invariant in omega arith),
  draws _ _ _ _ _ _ _ _ _ c.requires.idle.0 (i.1 ∙ c.requires.idle.1),
)
