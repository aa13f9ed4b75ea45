use Rattle.desk_logs.proofs.Endings.{ends_same}
use Rattle.desk_logs.proofs.laws.ends_are_written.Goals as goal

pub returns : goal.returns
returns c = ends_same
