use Rattle.licence_office.proofs.office.Office.make.Goals as goal

pub returns-clause-desks : goal.returns-clause-desks
returns-clause-desks g c = rw c.from_ref.ensures.value at c.make_many.ensures.desks
