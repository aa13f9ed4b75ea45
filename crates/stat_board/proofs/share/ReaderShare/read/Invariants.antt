use Rattle.std.proofs.Common.{◌≡◌}
use Rattle.stat_board.specs.Fronts.{IsSameBoard, IsLater}
use Rattle.stat_board.proofs.share.ReaderShare.read.Given as goal

abbrev pub invariant-loop-asked : goal.invariant-loop-asked
invariant-loop-asked l = (l.self ≡ l.fn.self) × IsSameBoard l.known l.self × IsLater l.fn.known l.known
