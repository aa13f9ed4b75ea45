use Rattle.std.proofs.Common.{ap}
use Rattle.audit_log.proofs.Moves.{holds_rest, merges, takes_next}
use Rattle.audit_log.proofs.queue.LogTake.finish.Goals as goal

pub absorb-requires-clause-rule : goal.absorb-requires-clause-rule
absorb-requires-clause-rule g c = merges _ _ _ _ c.self.invariant.may (ap (λ v. v.pushes) c.push.invariant.knows_all)

pub learn_as-requires-clause-rule : goal.learn_as-requires-clause-rule
learn_as-requires-clause-rule g c = holds_rest _ _ (ap (λ v. v.pushes) c.absorb.ensures.rule) (ap (λ v. v.takes) c.absorb.ensures.rule)

pub pop_as-requires-clause-rule : goal.pop_as-requires-clause-rule
pop_as-requires-clause-rule g c = let own = c.loop.invariant.knows_all in
    (takes_next _ _ (ap (λ v. v.pushes) own) (ap (λ v. v.takes) own), holds_rest _ _ (ap (λ v. v.pushes) own) (ap (λ v. v.takes) own))
