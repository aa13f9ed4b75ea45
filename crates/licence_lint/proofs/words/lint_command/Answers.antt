use Rattle.std.proofs.Common.{◌≡◌, true, codes, ap, ap₂, ◌∙◌}
use Rattle.std.proofs.lemmas.Result.{IfOk-weaker}
use Rattle.clap.specs.Simple.{app_of_fields}
use Rattle.clap.specs.Words.{App, app_of, new_app, with_rule}
use Rattle.licence_lint.specs.Asked.{lint_app, name_rule, span_rule}
use Rattle.licence_lint.proofs.words.lint_command.Goals as goal

abbrev versioned : App → App
versioned a = record a { top = record a.top { has_version = true } }

abbrev unnamed : App → App
unnamed a = record a { top = record a.top { no_binary_name = true } }

abbrev bare : App
bare = unnamed (versioned (new_app (codes "licence_lint")))

pub returns : goal.returns
unfolding lint_app
returns c =
    let first : app_of c.version.result ≡ versioned (new_app (codes "licence_lint")) = ap app_of_fields c.version.ensures ∙ ap versioned c.new.ensures.app in
    let second : app_of c.about.result ≡ versioned (new_app (codes "licence_lint")) = ap app_of_fields c.about.ensures ∙ first in
    let third : app_of c.no_binary_name.result ≡ bare = ap app_of_fields c.no_binary_name.ensures ∙ ap unnamed second in
    let licence : app_of c.in_ok-arg.field-0 ≡ with_rule bare (name_rule (codes "LICENCE")) =
    c.in_ok-arg.ensures.shape c.name_arg-licence.ensures.local ∙ ap₂ with_rule third c.name_arg-licence.ensures.rule in
    let options : app_of c.in_ok-arg-2.field-0 ≡ with_rule (with_rule bare (name_rule (codes "LICENCE"))) (name_rule (codes "OPTIONS")) =
    c.in_ok-arg-2.ensures.shape c.name_arg-options.ensures.local ∙ ap₂ with_rule licence c.name_arg-options.ensures.rule in
    let within : app_of c.in_ok-arg-3.field-0 ≡ with_rule (with_rule (with_rule bare (name_rule (codes "LICENCE"))) (name_rule (codes "OPTIONS"))) (span_rule (codes "expires-within")) =
    c.in_ok-arg-3.ensures.shape c.span_arg-within.ensures.local ∙ ap₂ with_rule options c.span_arg-within.ensures.rule in
    IfOk-weaker c.arg-4.result _ _ (λ r h. h.shape c.span_arg-on.ensures.local ∙ ap₂ with_rule within c.span_arg-on.ensures.rule) c.arg-4.ensures
