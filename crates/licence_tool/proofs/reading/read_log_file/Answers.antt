use Rattle.std.proofs.Common.{ap}
use Rattle.std.proofs.lemmas.Result.{err_from_is_err_and}
use Rattle.log_audit.specs.Log.{log_of}
use Rattle.licence_tool.specs.Outcome.{log_heard, value_or_status}
use Rattle.licence_tool.specs.declared.status.Status.TheVariants.{Script}
use Rattle.licence_tool.proofs.Hearing.{judged, unheard}
use Rattle.licence_tool.proofs.reading.read_log_file.Goals as goal

pub returns-in_err-file-clause-says : goal.returns-in_err-file-clause-says
unfolding log_heard
returns-in_err-file-clause-says g c =
    let p = err_from_is_err_and c.from_residual.result c.from_residual.ensures.1 in
    rw (p.1, p.2) (unheard (λ v. v.items) (λ v. v.items) 3 (λ bytes. value_or_status Script (log_of c.args.pools bytes)) _ _ _ c.in_err-file.ensures.says)

pub returns-in-Ok-clause-says : goal.returns-in-Ok-clause-says
unfolding log_heard
returns-in-Ok-clause-says g c =
    judged (λ v. v.items) (λ v. v.items) 3 (λ bytes. value_or_status Script (log_of c.args.pools bytes)) _ _ c.in_ok-file.file _ c.in_ok-file.ensures.says
    (ap (value_or_status Script) (rw c.as_slice.ensures.value at c.in-Ok.ensures.log))

pub returns-in-Err-Log-clause-says : goal.returns-in-Err-Log-clause-says
unfolding log_heard
returns-in-Err-Log-clause-says g c =
    judged (λ v. v.items) (λ v. v.items) 3 (λ bytes. value_or_status Script (log_of c.args.pools bytes)) _ _ c.in_ok-file.file _ c.in_ok-file.ensures.says
    (ap (value_or_status Script) (rw c.as_slice.ensures.value at (rw c.in-Err-Log.field-0-is at c.in-Err-Log.ensures.log)))
