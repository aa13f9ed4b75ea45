use Rattle.std.proofs.Common.{ap}
use Rattle.std.proofs.lemmas.Result.{err_from_is_err_and}
use Rattle.options_text.specs.Options.{options_of}
use Rattle.licence_tool.specs.Outcome.{options_heard, options_status, position_of_set, value_or_status}
use Rattle.licence_tool.proofs.Hearing.{judged, refusal_of, unheard}
use Rattle.licence_tool.proofs.reading.read_options_file.Goals as goal

pub returns-in_err-file-clause-says : goal.returns-in_err-file-clause-says
unfolding options_heard
returns-in_err-file-clause-says g c =
    let p = err_from_is_err_and c.from_residual.result c.from_residual.ensures.1 in
    rw (p.1, p.2) (unheard (λ options. options) (λ v. v.items) (position_of_set c.args.set) (λ bytes. value_or_status (options_status c.args.set) (options_of bytes)) _ _ _ (rw c.position_of_set.ensures at c.in_err-file.ensures.says))

pub returns-in-Ok-clause-says : goal.returns-in-Ok-clause-says
unfolding options_heard
returns-in-Ok-clause-says g c =
    judged (λ options. options) (λ v. v.items) (position_of_set c.args.set) (λ bytes. value_or_status (options_status c.args.set) (options_of bytes)) _ _ c.in_ok-file.file _ (rw c.position_of_set.ensures at c.in_ok-file.ensures.says)
    (ap (value_or_status (options_status c.args.set)) (rw c.as_slice.ensures.value at c.in-Ok.ensures))

pub returns-clause-says : goal.returns-clause-says
unfolding options_heard
returns-clause-says g c =
    judged (λ options. options) (λ v. v.items) (position_of_set c.args.set) (λ bytes. value_or_status (options_status c.args.set) (options_of bytes)) _ _ c.in_ok-file.file _ (rw c.position_of_set.ensures at c.in_ok-file.ensures.says)
    (refusal_of ⊥ _ _ _ _ (λ h. absurd h) (λ s e. e) (c.options_status.ensures.says (options_of c.in_ok-file.file.items) (rw (← c.as_slice.ensures.value) c.in-Err.ensures)))
