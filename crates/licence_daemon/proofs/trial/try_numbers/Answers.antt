use Rattle.session_outside.specs.Talk.{Follows}
use Rattle.trial_run.specs.Tried.{kept_of}
use Rattle.licence_daemon.proofs.TrialEnding.{front_written, whole_written}
use Rattle.licence_daemon.proofs.trial.try_numbers.Goals as goal

pub returns-in-Ok-write-clause-says : goal.returns-in-Ok-write-clause-says
returns-in-Ok-write-clause-says g c =
    whole_written c.args.numbers.now (λ sessions. Follows g.S.Site.keeps c.args.site.now c.try_out-held.new.site (kept_of (g.S.Site.made c.args.site.now) sessions)) c.in-Ok.trial c.in-Ok.ensures.tried _ _ _
    c.put_trial-end.ensures.written c.in-Ok-write.ensures.ok

pub returns-in-Err-clause-says : goal.returns-in-Err-clause-says
returns-in-Err-clause-says g c = (
  front_written c.args.numbers.now (λ sessions. Follows g.S.Site.keeps c.args.site.now c.try_out-held.new.site (kept_of (g.S.Site.made c.args.site.now) sessions)) c.in-Ok.trial c.in-Ok.ensures.tried _ _ _
      c.put_trial-end.ensures.written c.in-Err.ensures.err,
  c.in-Err.ensures.failed,
)
