use Rattle.trial_replay.proofs.Playing.{IsPlayed}
use Rattle.trial_replay.proofs.replaying.count_replies.Given as goal

abbrev pub invariant-loop-event : goal.invariant-loop-event
invariant-loop-event l = IsPlayed l.book l.counts l.event
