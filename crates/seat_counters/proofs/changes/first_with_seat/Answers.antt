use Rattle.std.proofs.Common.{◌≡◌, List, Some, slice_get, ap, sym, ◌∙◌}
use Rattle.options_machine.specs.declared.limits.Limit.{Limit}
use Rattle.seat_counters.specs.Counts.{has_seat}
use Rattle.seat_counters.proofs.Loops.{first_here, first_later}
use Rattle.seat_counters.proofs.changes.first_with_seat.Goals as goal

pub returns-then-has_seat : goal.returns-then-has_seat
returns-then-has_seat c =
    let here : slice_get c.args.rules.now.reserves c.loop-i.i ≡ Some c.at-limit.result = ap (λ (ms : List Limit). slice_get ms c.loop-i.i) (sym c.reserves-limits.ensures) ∙ c.at-limit.ensures in
    ap (λ (m : Limit). Some m.line.line) c.limit.view_is
    ∙ sym (first_here (has_seat c.args.rules.now c.args.client.now) c.args.rules.now.reserves c.args.counts.now c.loop-i.i c.at-limit.result c.loop-i-test.true here (sym c.has_seat.ensures ∙ c.if-has_seat.true))
    ∙ c.loop-i.invariant

pub loop-i-preserved : goal.loop-i-preserved
loop-i-preserved c =
    let here : slice_get c.args.rules.now.reserves c.loop-i.i ≡ Some c.at-limit.result = ap (λ (ms : List Limit). slice_get ms c.loop-i.i) (sym c.reserves-limits.ensures) ∙ c.at-limit.ensures in
    first_later (has_seat c.args.rules.now c.args.client.now) c.args.rules.now.reserves c.args.counts.now c.loop-i.i c.at-limit.result c.loop-i-test.true here (sym c.has_seat.ensures ∙ c.if-has_seat.false) ∙ c.loop-i.invariant
