use Rattle.std.proofs.Common.{◌-◌}
use Rattle.kex_words.specs.Passes.{due_at}
use Rattle.seat_names.proofs.Testing.{bit_at, Testing}
use Rattle.seat_names.proofs.seats.Seats.test.Given as goal

abbrev pub invariant-loop-further : goal.invariant-loop-further
invariant-loop-further l = Testing l.self l.fn.naming l.naming

abbrev pub decreases-loop-further : goal.decreases-loop-further
decreases-loop-further l = l.self.net.width - bit_at (due_at l.naming)
