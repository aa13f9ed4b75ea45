use Rattle.std.proofs.Common.{◌≡◌, ◌≤◌}
use Rattle.stat_board.specs.OneSeat.{one_seat, IsIdle}
use Rattle.desk_rows.proofs.tests.boards.publish_many.Given as goal

abbrev pub invariant-loop-time : goal.invariant-loop-time
invariant-loop-time g l = (l.board.front.sets ≡ one_seat) × IsIdle l.board.front.list × (l.published ≤ l._time)
