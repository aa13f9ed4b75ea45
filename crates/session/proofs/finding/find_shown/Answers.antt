use Rattle.std.proofs.Common.{refl}
use Rattle.office_view.proofs.Found.{first_there}
use Rattle.session.proofs.finding.find_shown.Goals as goal

pub returns-in-First-clause-within : goal.returns-in-First-clause-within
returns-in-First-clause-within g c = first_there _ c.args.office.now.pools _ c.in-First.first c.in-First.ensures.place refl
