use Rattle.trial_replay.proofs.Running.{events_run}
use Rattle.trial_replay.proofs.replaying.tell_run.Goals as goal

pub returns : goal.returns
returns c = events_run c.args.events c.requires
