use Rattle.options_machine.specs.State.{set_at}
use Rattle.options_machine.proofs.Runs.{lawful}
use Rattle.seat_book.specs.Parts.{state_of}
use Rattle.seat_book.proofs.book.Book.step.Goals as goal

pub returns-clause-lawful : goal.returns-clause-lawful
returns-clause-lawful c =
    lawful c.self-2.inside.sets.items (set_at c.self-2.inside.sets.items 0).count (state_of c.self-2.inside.parts) c.self-2.invariant.rules (record { set = c.self-2.invariant.set; kept = c.self-2.invariant.kept })
