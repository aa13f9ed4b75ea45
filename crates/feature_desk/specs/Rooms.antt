-- What a desk keeps.
use Rattle.std.specs.Prelude.{◌≡◌}
use Rattle.desk_seats.specs.Views.{parties_of}
use Rattle.feature_desk.specs.declared.desk.Desk.TheInside.{Inside}

-- the lock and the seats are of the same parties
pub record IsDesk (d : Inside) : Type 0 where
  pub parties : d.turns.id.parties ≡ parties_of d.seats
