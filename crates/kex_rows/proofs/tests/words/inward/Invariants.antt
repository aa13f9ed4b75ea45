use Rattle.std.proofs.Common.{◌≡◌}
use Rattle.kex_words.specs.Sorts.{pass_in_next}
use Rattle.kex_rows.proofs.tests.words.inward.Given as goal

abbrev pub invariant-loop-step : goal.invariant-loop-step
invariant-loop-step l = (pass_in_next l.next).table ≡ l.table
