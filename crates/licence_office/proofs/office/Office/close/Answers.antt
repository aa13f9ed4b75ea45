use Rattle.std.proofs.Common.{arith}
use Rattle.stat_board.specs.Fronts.{the_first}
use Rattle.licence_office.proofs.office.Office.close.Goals as goal

pub returns : goal.returns
returns g c =
    let r = c.close_with_log-tallies.ensures in let many = r.4 in let ok = c.close_with_log-tallies.result.logs.ok.0 in
    (r.0, r.1, (λ j d t lt. (r.2 j d t (the_first c.close_with_log-tallies.result.logs.items (omega (arith, lt, many, ok))) lt).0), r.3)
