use Rattle.std.proofs.Common.{◌≡◌, [], vec_len, vec_capacity, slice_get, Some, EachIndex}
use Rattle.turn_lock.specs.Passes.{unused_lock_pass}
use Rattle.turn_lock.specs.Steps.{maker}
use Rattle.turn_lock.proofs.turns.Turns.deal.Given as goal

abbrev pub invariant-loop-number : goal.invariant-loop-number
invariant-loop-number g l = (l.seat.table_id ≡ l.self.id.table) × (l.seat.me ≡ (maker l.self.law l.number, []))
    × (vec_len l.passes ≡ l.number) × (vec_capacity l.passes ≡ vec_capacity l.initial.passes)
    × EachIndex l.passes.items (λ i. slice_get l.passes.items i ≡ Some (unused_lock_pass l.self i))
