use Rattle.std.proofs.Common.{◌∙◌}
use Rattle.seat_names.proofs.Sorts.{turned_by}
use Rattle.seat_names.proofs.seats.Seats.turn.Goals as goal

pub returns-clause-turned : goal.returns-clause-turned
returns-clause-turned c = turned_by _ _ _ c.access.ensures.due c.access.ensures.moved c.of.ensures.same (c.of.ensures.kind ∙ c.access.ensures.kind)
