use Rattle.std.proofs.Common.{◌≡◌, ◌+◌, ◌≤◌, reverse, length, vec_len, vec_capacity, slice_get, Some, EachIndex}
use Rattle.feature_desk.specs.Sitters.{newcomer}
use Rattle.feature_desk.proofs.Pairs.{newcomers}
use Rattle.feature_desk.proofs.making.pair.Given as goal

abbrev pub invariant-loop-ticket : goal.invariant-loop-ticket
invariant-loop-ticket l = (vec_len l.outs ≡ vec_len l.tickets)
    × EachIndex l.tickets.items (λ i. slice_get l.tickets.items i ≡ Some (newcomer (record { lock = l.turns; seats = l.seats }) i).ticket)
    × EachIndex l.outs.items (λ i. slice_get l.outs.items i ≡ Some (newcomer (record { lock = l.turns; seats = l.seats }) i).seat)
    × (reverse l.passes.items ≡ newcomers (record { lock = l.turns; seats = l.seats }) (vec_len l.tickets) (length l.passes.items))
    × (vec_len l.tickets + vec_len l.passes ≡ vec_len l.initial.tickets)
    × (vec_len l.initial.tickets ≤ vec_capacity l.passes)
    × (vec_capacity l.tickets ≡ vec_capacity l.initial.tickets)

abbrev pub decreases-loop-ticket : goal.decreases-loop-ticket
decreases-loop-ticket l = vec_len l.tickets
