use Rattle.licence_daemon.proofs.TrialEnding.{trial_completes}
use Rattle.licence_daemon.proofs.program.trial_command.Goals as goal

pub returns-clause-complete : goal.returns-clause-complete
returns-clause-complete g c = trial_completes _ _ _ _ _ _ _ _ c.try_numbers-status.result c.try_numbers-status.ensures.says
