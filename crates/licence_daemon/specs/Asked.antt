-- Which files a `serve` asks for.
use Rattle.std.specs.Prelude.{◌≢◌, ◌⊎◌, ℕ, List, [], ◌∷◌}
use Rattle.licence_tool.specs.Asked.{Asks}
use Rattle.licence_tool.specs.declared.status.Status.{Status}
use Rattle.licence_tool.specs.declared.status.Status.TheVariants.{Done}
use Rattle.licence_daemon.specs.Serve.{ServeFiles}

-- the licence and the options file were asked for, and, where both were accepted, the further options files behind them, up to the file of which the status speaks; and only its reading failed
abbrev pub AsksServe : ServeFiles (List ℕ) → List (List ℕ) → List (List ℕ) → List (List ℕ) → List (List ℕ) → Status → Type 0
AsksServe names asked_old asked_new failed_old failed_new status =
    ((status ≢ Done) × Asks 1 (names.licence ∷ names.options ∷ []) asked_old asked_new failed_old failed_new status)
    ⊎ ((between : List (List ℕ)) × Asks 1 (names.licence ∷ names.options ∷ []) asked_old between failed_old failed_old Done × Asks 4 names.more between asked_new failed_old failed_new status)
