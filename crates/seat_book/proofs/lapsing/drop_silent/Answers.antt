use Rattle.std.proofs.Common.{ℕ, List, Option, ap, sym, ◌∙◌}
use Rattle.options_machine.specs.declared.rows.Holder.{Holder}
use Rattle.options_machine.specs.Settle.{in_time}
use Rattle.seat_rows.proofs.Seats.{timed_early}
use Rattle.seat_book.specs.Parts.{state_of}
use Rattle.seat_book.proofs.Heard.{timed_back}
use Rattle.seat_book.proofs.lapsing.drop_silent.Goals as goal

pub returns-then-timeout-parts-clause-state : goal.returns-then-timeout-parts-clause-state
returns-then-timeout-parts-clause-state c =
    c.let_silent_go.ensures.state
    ∙ ap (λ (hs : List Holder). record (state_of c.args.parts.now) { holders = hs })
    (sym (timed_back c.in-Some.timeout c.args.parts.now.moment c.args.parts.now.seats.holders c.if-timeout-parts.true c.requires.unheard)
    ∙ ap (λ (t : Option ℕ). in_time t c.args.parts.now.moment c.args.parts.now.seats.holders) c.in-Some.ensures)

pub returns-else-timeout-parts-clause-state : goal.returns-else-timeout-parts-clause-state
returns-else-timeout-parts-clause-state c =
    ap (λ (hs : List Holder). record (state_of c.args.parts.now) { holders = hs })
    (sym (timed_early c.in-Some.timeout c.args.parts.now.moment c.args.parts.now.seats.holders c.if-timeout-parts.false)
    ∙ ap (λ (t : Option ℕ). in_time t c.args.parts.now.moment c.args.parts.now.seats.holders) c.in-Some.ensures)
