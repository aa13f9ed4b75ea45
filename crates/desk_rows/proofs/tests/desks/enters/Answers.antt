use Rattle.desk_rows.proofs.tests.desks.enters.Goals as goal

pub returns : goal.returns
returns g c = c.enter_book.ensures.of
