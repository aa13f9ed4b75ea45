use Rattle.std.proofs.Common.{◌≡◌}
use Rattle.stat_board.specs.OneSeat.{one_seat, IsIdle}
use Rattle.desk_bench.proofs.boards.publish.Given as goal

abbrev pub invariant-loop-round : goal.invariant-loop-round
invariant-loop-round g l = (l.board.front.sets ≡ one_seat) × IsIdle l.board.front.list
