use Rattle.desk_rows.proofs.tests.desks.seated.Goals as goal

pub returns : goal.returns
returns g c = c.in-Matched.ensures.of
