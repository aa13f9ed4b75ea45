use Rattle.licence_daemon.proofs.Reached.{asks_all, asks_some}
use Rattle.licence_daemon.proofs.program.perform_serve.Goals as goal

pub returns-in-Ok-clause-asked : goal.returns-in-Ok-clause-asked
returns-in-Ok-clause-asked g c = asks_all _ _ _ _ _ _ _ _ _ _ _ _ _ _ c.serve_terms.result c.serve_terms.ensures.says c.in-Ok.ensures.asked

pub returns-in-Err-clause-asked : goal.returns-in-Err-clause-asked
returns-in-Err-clause-asked g c = asks_some _ _ _ _ _ _ _ c.in-Err.status c.in-Err.ensures.says.says c.in-Err.ensures.asked
