use Rattle.std.proofs.Common.{◌≡◌}
use Rattle.kex_words.specs.Sorts.{pass_in_back}
use Rattle.kex_rows.proofs.tests.words.outward.Given as goal

abbrev pub invariant-loop-step : goal.invariant-loop-step
invariant-loop-step l = (pass_in_back l.back).table ≡ l.table
