use Rattle.std.proofs.Common.{◌≡◌, slice_get, rules}
use Rattle.std.specs.Option.{option_map}
use Rattle.linger_clock.proofs.Pairs.{due_least}
use Rattle.linger_clock.proofs.Clock.due.Goals as goal

-- the first of the list, which is in order
pub returns-clause-least : goal.returns-clause-least
returns-clause-least c =
    let first : c.map.result ≡ option_map (λ d. d.until) (slice_get c.self.inside.by_moment.0 0) = search rules in
    rw (← c.self.view_is) (due_least c.self.inside.by_moment.0 c.map.result first c.self.invariant.sound.in_order)
