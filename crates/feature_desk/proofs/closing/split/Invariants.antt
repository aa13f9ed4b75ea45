use Rattle.std.proofs.Common.{◌≡◌, ◌++◌, ◌≤◌, vec_len, vec_capacity}
use Rattle.std.specs.Vec.Iter.{into_iter_items}
use Rattle.feature_desk.proofs.Splits.{Splits}
use Rattle.feature_desk.proofs.closing.split.Given as goal

abbrev pub invariant-loop-pass : goal.invariant-loop-pass
invariant-loop-pass l = Splits l.seats l.yielded l.tickets.items l.gathering × (vec_len l.fn.passes ≤ vec_capacity l.tickets) × (l.yielded ++ into_iter_items l.pass-iterator ≡ l.fn.passes.items)
