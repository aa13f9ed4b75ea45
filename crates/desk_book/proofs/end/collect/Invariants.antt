use Rattle.std.proofs.Common.{◌≡◌, ◌++◌, ◌≤◌, vec_len, vec_capacity}
use Rattle.std.specs.Vec.Iter.{into_iter_items}
use Rattle.desk_book.specs.Ends.{AreTickets}
use Rattle.desk_book.proofs.end.collect.Given as goal

abbrev pub invariant-loop-pass : goal.invariant-loop-pass
invariant-loop-pass l = AreTickets l.yielded l.tickets.items × (vec_len l.fn.passes ≤ vec_capacity l.tickets) × (l.yielded ++ into_iter_items l.pass-iterator ≡ l.fn.passes.items)
