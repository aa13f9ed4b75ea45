use Rattle.std.proofs.Common.{sym, ap, ◌∙◌, ℕ, ◌+◌, length}
use Rattle.options_machine.specs.State.{is_queuer}
use Rattle.options_machine.proofs.Places.{place_at_end}
use Rattle.seat_book.proofs.members.position_of.Goals as goal

pub returns-in-None : goal.returns-in-None
returns-in-None c =
    ap (λ (n : ℕ). n + 1) (ap length c.as_slice-queue.ensures.value ∙ place_at_end (is_queuer c.args.party) c.args.parts.now.queue.items (sym (rw c.as_slice-queue.ensures.value at c.first_queued.ensures) ∙ c.in-None.is))
