use Rattle.std.proofs.Common.{◌≡◌, None, Some, get_or, ◌∙◌}
use Rattle.linger_table.proofs.Entries.{slot_read}
use Rattle.linger_table.proofs.Places.{count_past_none, count_past_some, slot_found}
use Rattle.linger_table.proofs.slots.nth_slot.Goals as goal

pub loop-at-preserved-in_default : goal.loop-at-preserved-in_default
loop-at-preserved-in_default c =
    let here : get_or c.args.slots.now c.loop-at.at None ≡ None = slot_read c.args.slots.now c.loop-at.at c.index-slots-at.result c.loop-at-test.true c.index-slots-at.is ∙ c.in_default.is in
    count_past_none c.args.slots.now c.loop-at.at c.args.place c.loop-at.left c.loop-at.invariant here

pub returns-then-left-eq0 : goal.returns-then-left-eq0
returns-then-left-eq0 c =
    let here : get_or c.args.slots.now c.loop-at.at None ≡ Some c.in-Some.field-0 = slot_read c.args.slots.now c.loop-at.at c.index-slots-at.result c.loop-at-test.true c.index-slots-at.is ∙ c.in-Some.is in
    slot_found c.args.slots.now c.loop-at.at c.args.place c.loop-at.left c.in-Some.field-0 c.loop-at.invariant c.if-left-eq0.true here

pub loop-at-preserved : goal.loop-at-preserved
loop-at-preserved c =
    let here : get_or c.args.slots.now c.loop-at.at None ≡ Some c.in-Some.field-0 = slot_read c.args.slots.now c.loop-at.at c.index-slots-at.result c.loop-at-test.true c.index-slots-at.is ∙ c.in-Some.is in
    count_past_some c.args.slots.now c.loop-at.at c.args.place c.loop-at.left c.in-Some.field-0 c.loop-at.invariant c.if-left-eq0.false here
