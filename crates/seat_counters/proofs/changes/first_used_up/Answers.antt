use Rattle.std.proofs.Common.{◌≡◌, List, Some, slice_get, ap, sym, ◌∙◌}
use Rattle.options_machine.specs.declared.limits.Limit.{Limit}
use Rattle.seat_counters.specs.Counts.{is_used_up}
use Rattle.seat_counters.proofs.Loops.{first_here, first_later}
use Rattle.seat_counters.proofs.changes.first_used_up.Goals as goal

pub returns-then-is_used_up : goal.returns-then-is_used_up
returns-then-is_used_up c =
    let here : slice_get c.args.rules.now.maxes c.loop-i.i ≡ Some c.at-limit.result = ap (λ (ms : List Limit). slice_get ms c.loop-i.i) (sym c.maxes-limits.ensures) ∙ c.at-limit.ensures in
    ap (λ (m : Limit). Some m.line.line) c.limit.view_is
    ∙ sym (first_here (is_used_up c.args.rules.now c.args.client.now) c.args.rules.now.maxes c.args.counts.now c.loop-i.i c.at-limit.result c.loop-i-test.true here (sym c.is_used_up.ensures ∙ c.if-is_used_up.true))
    ∙ c.loop-i.invariant

pub loop-i-preserved : goal.loop-i-preserved
loop-i-preserved c =
    let here : slice_get c.args.rules.now.maxes c.loop-i.i ≡ Some c.at-limit.result = ap (λ (ms : List Limit). slice_get ms c.loop-i.i) (sym c.maxes-limits.ensures) ∙ c.at-limit.ensures in
    first_later (is_used_up c.args.rules.now c.args.client.now) c.args.rules.now.maxes c.args.counts.now c.loop-i.i c.at-limit.result c.loop-i-test.true here (sym c.is_used_up.ensures ∙ c.if-is_used_up.false) ∙ c.loop-i.invariant
