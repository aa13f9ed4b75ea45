use Rattle.std.proofs.Common.{◌≡◌, ◌++◌, drop}
use Rattle.seat_rows.specs.Rows.{holders_in}
use Rattle.seat_rows.proofs.holders_in.Given as goal

-- with the holders in the rows that are left, all are listed
abbrev pub invariant-loop-row : goal.invariant-loop-row
invariant-loop-row l = l.list.items ++ holders_in (drop l.row-index l.rows) ≡ holders_in l.rows
