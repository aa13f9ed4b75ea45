use Rattle.std.proofs.Common.{ap, sym, ◌∙◌, ◌<◌, arith}
use Rattle.options_machine.specs.Rules.{Rules}
use Rattle.options_machine.specs.State.{State, in_use}
use Rattle.seat_counters.specs.Counts.{Counts, first_line, has_seat}
use Rattle.seat_counters.proofs.Counted.{seat_is_room}
use Rattle.seat_book.specs.Parts.{state_of}
use Rattle.seat_book.proofs.Settled.{reserved_within}
use Rattle.seat_book.proofs.deciding.reserved.Goals as goal

pub returns-then-from : goal.returns-then-from
returns-then-from c =
    let r : Rules = c.args.rules.now in
    let s : State = state_of c.args.parts.now in
    let within : in_use s < r.count = omega arith in
    c.reserved.ensures
    ∙ ap (λ (x : Counts). first_line (has_seat r c.args.client.now) r.reserves x.reserves) c.requires
    ∙ seat_is_room r s c.args.client.now
    ∙ sym (reserved_within r s c.args.client.now within)
