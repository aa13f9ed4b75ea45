use Rattle.std.proofs.Common.{arith, rules}
use Rattle.group_roster.proofs.Marks.{marked_all, marked_more, marked_none}
use Rattle.group_roster.proofs.prints.marks_of.Goals as goal

pub loop-at-init : goal.loop-at-init
loop-at-init c = marked_none _ _ c.args.names.now (c.in_ok-marks.ensures.items_if_clones_equal (search rules))

pub loop-at-preserved : goal.loop-at-preserved
loop-at-preserved c = marked_more _ _ c.args.names.now c.loop-at.at _ _ _ c.loop-at.invariant c.mark_at.ensures.within c.loop-at-test.true c.mark_at.ensures.at

pub returns : goal.returns
returns c = marked_all _ _ c.args.names.now _ (omega (arith, c.saturating_add-count.ensures)) c.loop-at-test.false c.loop-at.invariant
