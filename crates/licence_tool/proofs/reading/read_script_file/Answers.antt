use Rattle.std.proofs.Common.{ap}
use Rattle.std.proofs.lemmas.Result.{err_from_is_err_and}
use Rattle.script_text.specs.Script.{script_of}
use Rattle.licence_tool.specs.Outcome.{script_heard, value_or_status}
use Rattle.licence_tool.specs.declared.status.Status.TheVariants.{Script}
use Rattle.licence_tool.proofs.Hearing.{judged, unheard}
use Rattle.licence_tool.proofs.reading.read_script_file.Goals as goal

pub returns-in_err-file-clause-says : goal.returns-in_err-file-clause-says
unfolding script_heard
returns-in_err-file-clause-says g c =
    let p = err_from_is_err_and c.from_residual.result c.from_residual.ensures.1 in
    rw (p.1, p.2) (unheard (λ v. v.items) (λ v. v.items) 3 (λ bytes. value_or_status Script (script_of bytes)) _ _ _ c.in_err-file.ensures.says)

pub returns-in-Ok-clause-says : goal.returns-in-Ok-clause-says
unfolding script_heard
returns-in-Ok-clause-says g c =
    judged (λ v. v.items) (λ v. v.items) 3 (λ bytes. value_or_status Script (script_of bytes)) _ _ c.in_ok-file.file _ c.in_ok-file.ensures.says
    (ap (value_or_status Script) (rw c.as_slice.ensures.value at c.in-Ok.ensures.script))

pub returns-in-Err-Fault-clause-says : goal.returns-in-Err-Fault-clause-says
unfolding script_heard
returns-in-Err-Fault-clause-says g c =
    judged (λ v. v.items) (λ v. v.items) 3 (λ bytes. value_or_status Script (script_of bytes)) _ _ c.in_ok-file.file _ c.in_ok-file.ensures.says
    (ap (value_or_status Script) (rw c.as_slice.ensures.value at (rw c.in-Err-Fault.field-0-is at c.in-Err-Fault.ensures.script)))
