use Rattle.std.proofs.Common.{sym, subst}
use Rattle.stat_board.specs.Fronts.{Front, IsLater}
use Rattle.stat_board.proofs.Published.{turns}
use Rattle.stat_board.proofs.board.open.Goals as goal

pub publish_as-writer-requires : goal.publish_as-writer-requires
publish_as-writer-requires g c next is = turns _ _ _ next (subst (λ (z : Front). IsLater c.args.writer.desk.shown.value z) (sym is) c.requires)
