use Rattle.std.proofs.Common.{◌≡◌, ◌+◌, ◌≤◌, All, reverse, length, vec_len, vec_capacity, slice_get, Some, EachIndex}
use Rattle.turn_lock.specs.Passes.{unused_lock_pass}
use Rattle.desk_book.proofs.Pairs.{newcomers}
use Rattle.desk_book.proofs.making.pair.Given as goal

-- the passes that are made are those of the last parties, from the last on
abbrev pub invariant-loop-ticket : goal.invariant-loop-ticket
invariant-loop-ticket l = (vec_len l.views ≡ vec_len l.tickets)
    × EachIndex l.tickets.items (λ i. slice_get l.tickets.items i ≡ Some (unused_lock_pass l.turns i))
    × All (λ v. v ≡ l.turns.law.board) l.views.items
    × (reverse l.passes.items ≡ newcomers l.turns (vec_len l.tickets) (length l.passes.items))
    × (vec_len l.tickets + vec_len l.passes ≡ vec_len l.initial.tickets)
    × (vec_len l.initial.tickets ≤ vec_capacity l.passes)
    × (vec_capacity l.tickets ≡ vec_capacity l.initial.tickets)

abbrev pub decreases-loop-ticket : goal.decreases-loop-ticket
decreases-loop-ticket l = vec_len l.tickets
