use Rattle.std.proofs.Common.{refl, ap, ◌∙◌}
use Rattle.clap.specs.Words.{is_simple_and_free}
use Rattle.licence_lint.proofs.Matching.{asked_if_refused, asked_if_taken, lint_is_free}
use Rattle.licence_lint.proofs.words.read_texts.Goals as goal

pub returns-in-Ok-try_get_matches_from : goal.returns-in-Ok-try_get_matches_from
returns-in-Ok-try_get_matches_from c =
    let taken = c.in-Ok-try_get_matches_from in
    asked_if_taken _ _ _ taken.matches c.found_in.result c.in-Ok.ensures refl taken.ensures.matches (taken.ensures.kinds (ap is_simple_and_free c.in-Ok.ensures ∙ lint_is_free)) c.found_in.ensures

pub returns-in-Err : goal.returns-in-Err
returns-in-Err c =
    asked_if_refused _ _ _ c.in-Err.error c.refused.result c.in-Ok.ensures refl (c.in-Err.ensures.kinds (ap is_simple_and_free c.in-Ok.ensures ∙ lint_is_free)) c.refused.ensures
