use Rattle.std.proofs.Common.{ap, subst, ◌<◌, length}
use Rattle.crossbeam_queue.specs.Passes.{view}
use Rattle.audit_log.proofs.Moves.{holds_no_more, pushes}
use Rattle.audit_log.proofs.queue.LogPush.push.Goals as goal
use Rattle.audit_log.specs.declared.queue.TheConstants.{ENTRY_LIMIT}

pub push_as-requires-clause-rule : goal.push_as-requires-clause-rule
push_as-requires-clause-rule g c =
    let may = ap (λ v. v.pushes) c.self.invariant.knows_all in
    let few : length (view c.self.inside.end).pushed < ENTRY_LIMIT = subst (λ n. n < ENTRY_LIMIT) c.self.invariant.counted c.if-self-ge-ENTRY_LIMIT.false in
    (pushes _ _ _ _ may few, holds_no_more _ _ may)
