-- What a door gives.
use Rattle.std.specs.Prelude.{ℕ, ◌+◌, ◌^◌, ◌-◌, min, Bool, true, false, List, []}
use Rattle.session_outside.specs.Talk.{Event}
use Rattle.daemon_outside.specs.declared.door.Came.{Came}
use Rattle.daemon_outside.specs.declared.door.Came.TheVariants.{Link, Quiet, Failed}

-- a door is broken once so many accepts failed with no link between them
abbrev pub most_fails : ℕ
most_fails = 1000

-- a link that is given has told nothing yet
abbrev pub IsFresh : {L : Type 0} → (L → List Event → Type 0) → Came L → Type 0
IsFresh tells (Link link) = tells link []
IsFresh tells Quiet = Unit {0}
IsFresh tells Failed = Unit {0}

abbrev pub is_quiet : {L : Type 0} → Came L → Bool
is_quiet (Link link) = false
is_quiet Quiet = true
is_quiet Failed = false

abbrev pub is_failed : {L : Type 0} → Came L → Bool
is_failed (Link link) = false
is_failed Quiet = false
is_failed Failed = true

-- how many links are given and not taken back
abbrev pub lent_after : {L : Type 0} → Came L → ℕ → ℕ
lent_after (Link link) n = n + 1
lent_after Quiet n = n
lent_after Failed n = n

-- how many accepts failed since the last link
abbrev pub fails_after : {L : Type 0} → Came L → ℕ → ℕ
fails_after (Link link) n = 0
fails_after Quiet n = n
fails_after Failed n = min (n + 1) (2 ^ 64 - 1)
