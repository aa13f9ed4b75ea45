use Rattle.std.proofs.Common.{◌≡◌, ℕ, ◌%◌, ◌^◌, []}
use Rattle.turn_lock.specs.declared.view.Stage.TheVariants.{Waiting}
use Rattle.turn_lock.specs.Passes.{Pass}
use Rattle.turn_lock.specs.Steps.{seated_view, IsAtRest}
use Rattle.turn_lock.proofs.turns.Turns.wait_turn.Given as goal

abbrev pub invariant-loop : goal.invariant-loop
invariant-loop g l = (l.seat.table_id ≡ l.fn.seat.table_id)
    × ((p : Pass g.row.V-Law.Denot g.row.V-Request.Denot g.row.V-Answer.Denot) → IsAtRest p l.fn.seat.me → (t : ℕ) × (l.ticket ≡ t % 2 ^ 64) × (l.seat.me ≡ (seated_view p (Waiting t), [])))
