use Rattle.std.proofs.Common.{[], ◌∷◌, ◌++◌, ap, ◌∙◌, Some}
use Rattle.turn_lock.proofs.Start.{starts_from}
use Rattle.turn_lock.proofs.turns.Turns.make.Goals as goal

pub new-requires : goal.new-requires
new-requires g c = starts_from _ _ g.V.Kept.run _ _ _ _ c.args.value (c.push_reserved.ensures.items ∙ ap (λ z. z ++ Some c.args.value ∷ []) c.in-Ok-with_capacity.ensures.items)
    c.requires.opens.0 c.requires.opens.1 (ap g.V.Kept.law c.of.ensures)
