use Rattle.std.proofs.Common.{◌≡◌, ap, ◌∙◌, rules}
use Rattle.std.specs.Option.{option_map}
use Rattle.linger_clock.proofs.Keeping.{find_owner}
use Rattle.linger_clock.proofs.Clock.moment_of.Goals as goal

-- the tree by owner has the owner's moment
pub returns-clause-moment : goal.returns-clause-moment
returns-clause-moment c =
    let found : c.map.result ≡ option_map (λ d. d.until) c.get.result = search rules in
    rw (← c.self.view_is) (found ∙ ap (option_map (λ d. d.until)) (c.get.ensures ∙ find_owner (record { owner = c.args.owner; until = 0 }) c.self.inside.by_owner.0) ∙ c.self.invariant.same c.args.owner)
