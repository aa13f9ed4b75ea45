use Rattle.std.proofs.Common.{ap}
use Rattle.options_machine.specs.State.{State}
use Rattle.options_machine.specs.declared.reply.Reply.{Reply}
use Rattle.scripts.specs.PoolRuns.{served_at}
use Rattle.scripts.proofs.Steps.{entered_by}
use Rattle.scripts.proofs.pool_run.PoolRun.enter.Goals as goal

pub returns-clause-entered : goal.returns-clause-entered
unfolding served_at
returns-clause-entered c =
    entered_by c.args.line.now c.args.self.now c.step-reply.new.self c.note_place.new.places c.step-reply.result.0 (rw (c.request_of.ensures, c.moment.ensures) at c.step-reply.ensures.step) c.step-reply.ensures.same.0 c.step-reply.ensures.same.1 c.step-reply.ensures.grants c.note_place.ensures

pub returns-clause-reply : goal.returns-clause-reply
unfolding served_at
returns-clause-reply c = ap (λ (served : Reply × State). served.0) (rw (c.request_of.ensures, c.moment.ensures) at c.step-reply.ensures.step)
