-- How a worker at a door ends.
use Rattle.std.specs.Prelude.{ℕ, ◌<◌, ◌≤◌, ◌⊎◌, Option, Some, None}
use Rattle.daemon_outside.specs.Doors.{most_fails}
use Rattle.session_outside.specs.Talk.{HasRisen}
use Rattle.door_worker.specs.declared.end.DoorEnd.{DoorEnd}
use Rattle.door_worker.specs.declared.end.DoorEnd.TheVariants.{Rung, Broken}

-- the end has its cause in the counts of this call: the bell was heard where nothing came or an accept failed, and the door isn't broken; or the door is
abbrev pub HasCause : DoorEnd → ℕ → ℕ → ℕ → ℕ → ℕ → ℕ → ℕ → Type 0
HasCause Rung tolls0 tolls1 quiets0 quiets1 faults0 faults1 fails1 = HasRisen tolls0 tolls1 × (HasRisen quiets0 quiets1 ⊎ HasRisen faults0 faults1) × (fails1 < most_fails)
HasCause Broken tolls0 tolls1 quiets0 quiets1 faults0 faults1 fails1 = HasRisen faults0 faults1 × (most_fails ≤ fails1)

-- as HasCause, where a worker has ended; else the door isn't broken
abbrev pub HasCauseIfAny : Option DoorEnd → ℕ → ℕ → ℕ → ℕ → ℕ → ℕ → ℕ → Type 0
HasCauseIfAny (Some end) tolls0 tolls1 quiets0 quiets1 faults0 faults1 fails1 = HasCause end tolls0 tolls1 quiets0 quiets1 faults0 faults1 fails1
HasCauseIfAny None tolls0 tolls1 quiets0 quiets1 faults0 faults1 fails1 = fails1 < most_fails
