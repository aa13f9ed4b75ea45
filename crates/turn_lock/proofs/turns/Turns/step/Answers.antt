use Rattle.std.proofs.Common.{ap, ◌∙◌, sym, Some}
use Rattle.turn_lock.proofs.Seats.{held}
use Rattle.turn_lock.proofs.turns.Turns.step.Goals as goal

pub slot_mut-slot-requires : goal.slot_mut-slot-requires
slot_mut-slot-requires g c = let t = c.requires.out in (c.requires.lock ∙ sym (ap (λ z. z.id.table) c.self.view_is), (Some t.0, held _ _ _ _ t.1))
