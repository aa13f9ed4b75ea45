use Rattle.std.proofs.Common.{◌≡◌, true, refl, sym, ap, arith, Some, ◌∙◌}
use Rattle.std.specs.List.{list_any}
use Rattle.feature_lines.specs.Route.{is_good, is_new_enough, serves}
use Rattle.feature_lines.specs.declared.pool.Pool.{Pool}
use Rattle.feature_lines.proofs.Routes.{expiry_any, never_serves, no_expiry, position_within, served_any}
use Rattle.feature_lines.proofs.route.find_pool.Goals as goal

pub returns-in-Some-clause-there : goal.returns-in-Some-clause-there
returns-in-Some-clause-there c =
    omega (arith, position_within (serves c.args.name.now c.args.version.key c.args.moment) 0 c.args.pools.now c.in-Some.at (sym c.serving.ensures ∙ c.in-Some.is))

pub returns-in-Some-clause-unknown : goal.returns-in-Some-clause-unknown
returns-in-Some-clause-unknown c =
    let some : list_any (is_new_enough c.args.name.now c.args.version.key) c.args.pools.now ≡ true =
    served_any (is_new_enough c.args.name.now c.args.version.key) (λ (p : Pool). is_good c.args.moment p.expiry) c.args.pools.now 0 c.in-Some.at (sym c.serving.ensures ∙ c.in-Some.is) in
    (λ e. absurd cc, λ none. absurd cc)

pub returns-in-Some-On-clause-unknown : goal.returns-in-Some-On-clause-unknown
returns-in-Some-On-clause-unknown c =
    let some : list_any (is_new_enough c.args.name.now c.args.version.key) c.args.pools.now ≡ true =
    expiry_any (is_new_enough c.args.name.now c.args.version.key) c.args.pools.now _ _ refl (sym c.first_expiry.ensures ∙ c.in-Some-On.is) in
    (λ e. absurd cc, λ none. absurd cc)

pub returns-in-Some-Never-clause-unknown : goal.returns-in-Some-Never-clause-unknown
returns-in-Some-Never-clause-unknown c =
    absurd (never_serves (is_new_enough c.args.name.now c.args.version.key) c.args.moment c.args.pools.now _ refl (sym c.serving.ensures ∙ c.in_default.is) (sym c.first_expiry.ensures ∙ (c.in-Some-Never.is ∙ ap Some c.in-Some-Never.field-0-is)))

pub returns-in-None-clause-unknown : goal.returns-in-None-clause-unknown
returns-in-None-clause-unknown c =
    (λ _. no_expiry (is_new_enough c.args.name.now c.args.version.key) c.args.pools.now _ refl (sym c.first_expiry.ensures ∙ c.in-None.is), λ _. refl)
