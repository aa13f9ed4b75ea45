-- How a daemon ends.
use Rattle.std.specs.Prelude.{◌≡◌, ℕ}
use Rattle.licence_office.specs.declared.closing.OfficeEnd.{OfficeEnd}
use Rattle.session_outside.specs.Talk.{HasRisen}
use Rattle.daemon_run.specs.declared.ended.Ended.{Ended}
use Rattle.daemon_run.specs.declared.ended.Ended.TheVariants.{SiteFault, Served, DoorFault}

-- each end has its cause in the site's counts of this call: a call failed; a bell was heard at its door, and no door was broken; a door was broken
abbrev pub HasCause : Ended → ℕ → ℕ → ℕ → ℕ → ℕ → ℕ → Type 0
HasCause SiteFault faults0 faults1 tolls0 tolls1 broken0 broken1 = HasRisen faults0 faults1
HasCause (Served end) faults0 faults1 tolls0 tolls1 broken0 broken1 = HasRisen tolls0 tolls1 × (broken1 ≡ broken0)
HasCause (DoorFault end) faults0 faults1 tolls0 tolls1 broken0 broken1 = HasRisen broken0 broken1

-- where it served, this holds of what the office told
abbrev pub WhereServed : Ended → (OfficeEnd → Type 0) → Type 0
WhereServed SiteFault F = Unit {0}
WhereServed (Served end) F = F end
WhereServed (DoorFault end) F = F end

-- where it could not serve, this holds
abbrev pub WhereUnserved : Ended → Type 0 → Type 0
WhereUnserved SiteFault F = F
WhereUnserved (Served end) F = Unit {0}
WhereUnserved (DoorFault end) F = Unit {0}
