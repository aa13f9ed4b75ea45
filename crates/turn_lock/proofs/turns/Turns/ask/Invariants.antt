use Rattle.std.proofs.Common.{[], ◌∷◌}
use Rattle.turn_lock.specs.Entries.{entry}
use Rattle.turn_lock.proofs.turns.Turns.ask.Given as goal

-- the entry of this call
abbrev pub ghosts-count : goal.ghosts-count
ghosts-count g a = record { said = entry a.request.now a.stepped.now.used a.stepped.now.answer ∷ [] }
