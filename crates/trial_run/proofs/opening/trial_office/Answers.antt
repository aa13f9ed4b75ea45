use Rattle.trial_run.proofs.TrialOffice.{trial_desk}
use Rattle.trial_run.proofs.opening.trial_office.Goals as goal

pub returns-clause-desk : goal.returns-clause-desk
returns-clause-desk g c =
    trial_desk c.in_ok-licence.licence.pools c.in_ok-options.options c.args.clients c.args.seats c.in_ok-office.office.view.desks c.in_ok-licence.ensures c.in_ok-options.ensures c.in_ok-office.ensures.desks
