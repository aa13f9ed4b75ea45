use Rattle.std.proofs.Common.{List, sym, ap, ◌∙◌}
use Rattle.feature_lines.specs.Route.{route}
use Rattle.feature_lines.specs.declared.pool.Pool.{Pool}
use Rattle.scripts.specs.PoolRuns.{run_walk}
use Rattle.scripts.specs.Walk.{found_by_route}
use Rattle.scripts.proofs.routing.route.Goals as goal

pub returns-in-Some : goal.returns-in-Some
returns-in-Some c =
    (rw (c.name.ensures, c.moment.ensures) at c.find.ensures.found)
    ∙ (ap (λ (pools : List Pool). route pools c.args.name.now c.in-Some.version.key c.args.line.now.moment) (sym c.requires)
    ∙ ap (found_by_route run_walk c.args.runs.now c.args.name.now c.args.line.now.moment) (sym c.in-Some.is ∙ c.version.ensures))
