use Rattle.audit_log.proofs.LogLines.{logs_back}
use Rattle.audit_log.proofs.laws.logs_read_back.Goals as goal

pub returns : goal.returns
returns c = logs_back
