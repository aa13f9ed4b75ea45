use Rattle.std.proofs.Common.{◌≡◌, List, [], ◌∷◌, ◌++◌, vec_len, All}
use Rattle.turn_lock.specs.Passes.{Pass}
use Rattle.turn_lock.proofs.Seats.{gathered}
use Rattle.turn_lock.proofs.turns.Turns.gather.Given as goal

abbrev pub invariant-loop-pass : goal.invariant-loop-pass
invariant-loop-pass g l = (l.seat.table_id ≡ l.self.id.table) × All (λ p. p.lock ≡ l.self.id) l.passes.items
    × ((first : Pass g.row.V-Law.Denot g.row.V-Request.Denot g.row.V-Answer.Denot) × (done : List (Pass g.row.V-Law.Denot g.row.V-Request.Denot g.row.V-Answer.Denot))
    × (l.fn.passes.items ≡ l.passes.items ++ (done ++ first ∷ [])) × (l.seat.me ≡ (gathered first done, [])))

abbrev pub decreases-loop-pass : goal.decreases-loop-pass
decreases-loop-pass g l = vec_len l.passes
