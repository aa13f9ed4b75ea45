use Rattle.std.proofs.Common.{◌∙◌, subst}
use Rattle.stat_board.specs.Fronts.{Front, IsLater}
use Rattle.stat_board.proofs.Fronts.{later_self}
use Rattle.stat_board.proofs.Published.{turns}
use Rattle.stat_board.proofs.Told.{told_read}
use Rattle.stat_board.proofs.share.read.Goals as goal

pub enter_as-requires : goal.enter_as-requires
enter_as-requires c x = turns _ _ x x (later_self x)

pub returns-in-Ok-clause-told : goal.returns-in-Ok-clause-told
returns-in-Ok-clause-told c = told_read c.in-Ok.reading.part.value c.hear.new.self _ (c.leave.ensures.1 ∙ c.in-Ok.ensures.1.1)
    (subst (λ (f : Front). IsLater f c.hear.new.self) c.get.ensures c.hear.ensures.heard)

pub returns-in-Err-clause-told : goal.returns-in-Err-clause-told
returns-in-Err-clause-told c = (c.requires.0, c.in-Err.ensures.1 ∙ c.requires.1, c.requires.2)
