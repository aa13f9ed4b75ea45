use Rattle.std.proofs.Common.{ap}
use Rattle.std.proofs.lemmas.Result.{err_from_is_err_and}
use Rattle.feature_lines.specs.Licence.{licence_of}
use Rattle.licence_tool.specs.Outcome.{licence_heard, value_or_status}
use Rattle.licence_tool.specs.declared.status.Status.TheVariants.{Licence}
use Rattle.licence_tool.proofs.Hearing.{judged, refusal_of, unheard}
use Rattle.licence_tool.proofs.reading.read_licence_file.Goals as goal

pub returns-in_err-file-clause-says : goal.returns-in_err-file-clause-says
unfolding licence_heard
returns-in_err-file-clause-says g c =
    let p = err_from_is_err_and c.from_residual.result c.from_residual.ensures.1 in
    rw (p.1, p.2) (unheard (λ licence. licence) (λ v. v.items) 1 (λ bytes. value_or_status Licence (licence_of bytes)) _ _ _ c.in_err-file.ensures.says)

pub returns-in-Ok-clause-says : goal.returns-in-Ok-clause-says
unfolding licence_heard
returns-in-Ok-clause-says g c =
    judged (λ licence. licence) (λ v. v.items) 1 (λ bytes. value_or_status Licence (licence_of bytes)) _ _ c.in_ok-file.file _ c.in_ok-file.ensures.says
    (ap (value_or_status Licence) (rw c.as_slice.ensures.value at c.in-Ok.ensures))

pub returns-clause-says : goal.returns-clause-says
unfolding licence_heard
returns-clause-says g c =
    judged (λ licence. licence) (λ v. v.items) 1 (λ bytes. value_or_status Licence (licence_of bytes)) _ _ c.in_ok-file.file _ c.in_ok-file.ensures.says
    (refusal_of ⊥ _ _ _ _ (λ h. absurd h) (λ s e. e) (c.licence_status.ensures.says (licence_of c.in_ok-file.file.items) (rw (← c.as_slice.ensures.value) c.in-Err.ensures)))
