use Rattle.std.proofs.Common.{string_bytes}
use Rattle.licence_tool.proofs.Clauses.{for_audit, for_replay}
use Rattle.licence_tool.proofs.Trials.{trial_asks, trial_done}
use Rattle.licence_tool.proofs.perform.perform_words.Goals as goal

pub returns-in-Some-Replay-clause-says : goal.returns-in-Some-Replay-clause-says
returns-in-Some-Replay-clause-says g c =
    let names = c.in-Some-Replay.names in
    rw c.status_of-in-Some-Replay.ensures
    (for_replay _ _ (g.F.Files.contents c.args.files.now) names.licence.now names.options.now names.third.now string_bytes names.more.now _ _ _ _ _ (rw c.in-Some-Replay.field-0-is at c.in-Some-Replay.ensures.command) c.replay.ensures.says)

pub returns-in-Some-Audit-clause-says : goal.returns-in-Some-Audit-clause-says
returns-in-Some-Audit-clause-says g c =
    let names = c.in-Some-Audit.names in
    rw c.status_of-in-Some-Audit.ensures
    (for_audit c.in-Some-Audit.report _ (g.F.Files.contents c.args.files.now) names.licence.now names.options.now names.third.now string_bytes names.more.now _ _ _ _ _ (rw c.in-Some-Audit.field-0-is at c.in-Some-Audit.ensures.command) c.audit.ensures.says)

pub returns-in-Some-Trial-clause-says : goal.returns-in-Some-Trial-clause-says
returns-in-Some-Trial-clause-says g c =
    rw c.status_of-in-Some-Trial.ensures
    (trial_done _ (g.F.Files.contents c.args.files.now) c.in-Some-Trial.events _ _ _ _ _ (rw c.in-Some-Trial.field-0-is at c.in-Some-Trial.ensures.command) c.trial.ensures.run c.trial.ensures.says)

pub returns-in-Some-Trial-clause-asked : goal.returns-in-Some-Trial-clause-asked
returns-in-Some-Trial-clause-asked g c =
    rw c.status_of-in-Some-Trial.ensures
    (trial_asks _ c.in-Some-Trial.events _ _ _ _ _ _ (rw c.in-Some-Trial.field-0-is at c.in-Some-Trial.ensures.command) c.trial.ensures.says)
