use Rattle.session.proofs.Lines.{sessions_read}
use Rattle.session.proofs.laws.sessions_read.Goals as goal

pub returns : goal.returns
returns c = sessions_read
