use Rattle.licence_daemon.proofs.Completing.{completes}
use Rattle.licence_daemon.proofs.program.serve_command.Goals as goal

pub returns-clause-complete : goal.returns-clause-complete
returns-clause-complete g c = completes _ _ _ _ _ _ _ _ _ _ c.perform_serve-status.result c.perform_serve-status.ensures.says
