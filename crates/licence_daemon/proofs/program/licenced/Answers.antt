use Rattle.std.proofs.Common.{Option, subst}
use Rattle.outside.specs.Told.{HasRisen}
use Rattle.licence_daemon.specs.TrialEnds.{ForTrial, IsTrialComplete}
use Rattle.licence_daemon.specs.declared.trial_words.TrialNumbers.{TrialNumbers}
use Rattle.licence_daemon.proofs.program.licenced.Goals as goal

pub returns-in-Some-trial_words-clause-trial_complete : goal.returns-in-Some-trial_words-clause-trial_complete
returns-in-Some-trial_words-clause-trial_complete g c =
    let P : TrialNumbers → Type 0 = λ n. IsTrialComplete (HasRisen (g.O.Sink.faults c.args.out.now) (g.O.Sink.faults c.trial_command.new.out)) (g.S.Site.faults c.args.site.now) (g.S.Site.faults c.trial_command.new.site) c.trial_command.result in
    subst (λ (o : Option TrialNumbers). ForTrial o P) c.in-Some-trial_words.ensures.trial c.trial_command.ensures.complete
