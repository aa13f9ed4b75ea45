use Rattle.std.proofs.Common.{◌≡◌, ◌<◌, ◌∙◌, ℕ, List, Option, Some, None, length, refl, sym, ap}
use Rattle.feature_lines.specs.Route.{route}
use Rattle.feature_lines.specs.declared.pool.Pool.{Pool}
use Rattle.feature_lines.specs.declared.route.Found.TheVariants.{Unknown}
use Rattle.lic_types.specs.declared.version.Version.{Version}
use Rattle.office_view.specs.View.{first_named}
use Rattle.office_view.proofs.Found.{first_within, route_nowhere}
use Rattle.office_view.proofs.Searches.{any_item}
use Rattle.session.specs.Table.{found_by_route, found_or}
use Rattle.session.proofs.Firsts.{first_of_own, named_first}
use Rattle.session.proofs.finding.routed.Goals as goal

nowhere : (pools : List Pool) (name : List ℕ) (at : ℕ) (version : Option Version) → first_named pools name ≡ None → Unknown ≡ found_by_route pools name at version
nowhere pools name at (Some version) e = sym (route_nowhere pools name version.key at e)
nowhere pools name at None e = sym (ap (λ o. found_or o Unknown) e)

pub route-requires-clause-there : goal.route-requires-clause-there
route-requires-clause-there g c = let (name, e) = c.requires in first_within _ c.args.office.now.pools name c.in-Some-Some.i c.args.first e c.in-Some-Some.is-0 refl

pub route-requires-clause-first : goal.route-requires-clause-first
route-requires-clause-first g c = let (name, e) = c.requires in first_of_own c.args.office.now.pools name c.args.first c.in-Some-Some.i e c.in-Some-Some.is-0

pub returns-in-None-default-clause-found : goal.returns-in-None-default-clause-found
returns-in-None-default-clause-found g c = λ name e. nowhere c.args.office.now.pools name c.args.at c.args.version (sym e ∙ c.in-None-default.is-0)

pub returns-in-Some-None-clause-there : goal.returns-in-Some-None-clause-there
returns-in-Some-None-clause-there g c = let (name, e) = c.requires in first_within _ c.args.office.now.pools name c.in-Some-None.i c.args.first e c.in-Some-None.is-0 refl

pub returns-in-Some-Some-clause-found : goal.returns-in-Some-Some-clause-found
returns-in-Some-Some-clause-found g c = λ name e.
    let within : c.in-Some-Some.i < length c.args.office.now.pools = first_within _ c.args.office.now.pools name c.in-Some-Some.i c.args.first e c.in-Some-Some.is-0 refl in
    let p : Pool = any_item c.args.office.now.pools c.in-Some-Some.i within in
    c.route.ensures.found p
    ∙ ap (λ n. route c.args.office.now.pools n c.in-Some-Some.version.key c.args.at) (named_first c.args.office.now.pools name c.args.first c.in-Some-Some.i e c.in-Some-Some.is-0 p)
    ∙ sym (ap (found_by_route c.args.office.now.pools name c.args.at) c.in-Some-Some.is-1)
