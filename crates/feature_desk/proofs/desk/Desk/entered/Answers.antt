use Rattle.std.proofs.Common.{None}
use Rattle.desk_seats.proofs.Goings as going
use Rattle.feature_desk.proofs.Lasts.{last_of}
use Rattle.feature_desk.proofs.desk.Desk.entered.Goals as goal

pub returns-clause-held : goal.returns-clause-held
returns-clause-held g c =
    let t = c.go_on.ensures in
    record { place = t.place; last = last_of None _ _ _ t.got }

pub returns-clause-goes : goal.returns-clause-goes
returns-clause-goes g c = going.goes_on _ _ _ c.stepped-turn.ensures.goes c.go_on.ensures.goes
