use Rattle.std.proofs.Common.{ap, ◌∙◌}
use Rattle.options_machine.specs.Rules.{Rules}
use Rattle.seat_counters.specs.Counts.{Counts, first_line, is_used_up}
use Rattle.seat_counters.proofs.Counted.{used_up_is_reached}
use Rattle.seat_book.specs.Parts.{state_of}
use Rattle.seat_book.proofs.deciding.reached.Goals as goal

pub returns : goal.returns
returns c =
    let r : Rules = c.args.rules.now in
    c.reached.ensures
    ∙ ap (λ (x : Counts). first_line (is_used_up r c.args.client.now) r.maxes x.maxes) c.requires
    ∙ used_up_is_reached r (state_of c.args.parts.now) c.args.client.now
