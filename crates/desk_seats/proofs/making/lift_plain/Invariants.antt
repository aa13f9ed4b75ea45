use Rattle.std.proofs.Common.{◌≡◌, ◌++◌, ◌≤◌, map, vec_len, vec_capacity}
use Rattle.std.specs.Vec.Iter.{into_iter_items}
use Rattle.desk_seats.specs.Passes.{plain_pass}
use Rattle.desk_seats.proofs.making.lift_plain.Given as goal

abbrev pub invariant-loop-out : goal.invariant-loop-out
invariant-loop-out l = (l.passes.items ≡ map plain_pass l.yielded) × (vec_len l.fn.outs ≤ vec_capacity l.passes) × (l.yielded ++ into_iter_items l.out-iterator ≡ l.fn.outs.items)
