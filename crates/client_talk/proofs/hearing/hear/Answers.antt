use Rattle.std.proofs.Common.{arith}
use Rattle.std.proofs.lemmas.Result.{err_from_is_err_and}
use Rattle.client_talk.proofs.Heardings.{hears_more, hears_none, hears_quiet, hears_reply}
use Rattle.client_talk.proofs.hearing.hear.Goals as goal

pub returns-in-Reply : goal.returns-in-Reply
returns-in-Reply g c =
    let s = rw c.in-Reply.is at c.in_ok-hear_some.ensures in
    hears_reply _ _ _ _ _ c.hear_some.new.feeder _ c.loop-quiets.invariant.0 s.0 s.1 s.2

pub loop-quiets-preserved-in-More : goal.loop-quiets-preserved-in-More
loop-quiets-preserved-in-More g c =
    let s = rw c.in-More.is at c.in_ok-hear_some.ensures in
    (hears_more _ _ _ _ _ c.hear_some.new.feeder _ c.loop-quiets.invariant.0 s.0 s.1 s.2, c.loop-quiets.invariant.1)

pub loop-quiets-preserved : goal.loop-quiets-preserved
loop-quiets-preserved g c =
    let s = rw c.in-Quiet.is at c.in_ok-hear_some.ensures in
    (hears_quiet _ _ _ _ _ c.hear_some.new.feeder _ c.loop-quiets.invariant.0 s.0 s.1 s.2, omega arith)

pub returns-in_err-hear_some : goal.returns-in_err-hear_some
returns-in_err-hear_some g c =
    let s = c.in_err-hear_some.ensures in
    let p = err_from_is_err_and c.from_residual.result c.from_residual.ensures.1 in
    rw (p.1, p.2) (hears_none _ _ _ _ _ c.hear_some.new.feeder _ c.loop-quiets.invariant.0 s.0 s.1 c.in_err-hear_some.field-0.0 s.2)
