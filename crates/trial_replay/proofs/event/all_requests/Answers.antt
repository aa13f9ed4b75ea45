use Rattle.std.proofs.Common.{sym, ◌∙◌}
use Rattle.trial_replay.proofs.Requests.{requests_more, requests_none}
use Rattle.trial_replay.proofs.event.all_requests.Goals as goal

pub loop-number-init : goal.loop-number-init
loop-number-init c = c.new-requests.ensures.items ∙ sym requests_none

pub loop-number-preserved : goal.loop-number-preserved
loop-number-preserved c = c.in_ok-push.ensures.items ∙ (rw (c.loop-number.invariant, c.request_numbered.ensures) (sym (requests_more c.loop-number.number)))
