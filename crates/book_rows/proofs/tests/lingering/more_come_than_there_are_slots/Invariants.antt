use Rattle.std.proofs.Common.{◌≡◌}
use Rattle.book_rows.proofs.tests.lingering.more_come_than_there_are_slots.Given as goal

abbrev pub invariant-loop-call : goal.invariant-loop-call
invariant-loop-call g l = l.table.room ≡ 2
