-- What a turn tells of its pass.
use Rattle.std.specs.Prelude.{◌≡◌, ◌≢◌, ◌⊎◌, ◌↔◌, ℕ, ◌+◌}
use Rattle.kex_core.specs.declared.place.Place.{Place}
use Rattle.kex_core.specs.declared.place.Place.TheVariants.{Out, Dec, Mark, Look, Spin, Naming, Named, Holding, Clearing, Inc, Unmark}
use Rattle.kex_core.specs.Nets.{Plan}
use Rattle.kex_core.specs.Worlds.{value_found}
use Rattle.kex_core.specs.Shapes.{plan}
use Rattle.kex_words.specs.Passes.{Pass, Kind, due_at, entering, naming, named}
use Rattle.kex_words.specs.Moves.{Moved}
use Rattle.seat_names.specs.declared.turns.Turn.{Turn}
use Rattle.seat_names.specs.declared.turns.Turn.TheVariants as turn
use Rattle.seat_names.specs.declared.turns.Through.{Through}
use Rattle.seat_names.specs.declared.turns.Through.TheVariants as through

abbrev pub pass_in_through : Through → Pass
pass_in_through (through.Naming n) = n
pass_in_through (through.Named n) = n

abbrev pub pass_in_turn : Turn → Pass
pass_in_turn (turn.Again e) = e
pass_in_turn (turn.Through t) = pass_in_through t

abbrev pub kind_in_through : Through → Kind
kind_in_through (through.Naming n) = naming
kind_in_through (through.Named n) = named

abbrev pub kind_in_turn : Turn → Kind
kind_in_turn (turn.Again e) = entering
kind_in_turn (turn.Through t) = kind_in_through t

-- the party has to take another turn
abbrev pub IsAgain : Turn → Type 0
IsAgain (turn.Again e) = Unit {0}
IsAgain (turn.Through t) = ⊥

-- the party is through the stages
abbrev pub IsThrough : Turn → Type 0
IsThrough (turn.Again e) = ⊥
IsThrough (turn.Through t) = Unit {0}

-- the access of this place, which found n, leaves p among the stages: it read Q and found p's own number, or was Dec with old 0 (stored as 1), Mark, or Look with X below 0 (stored as 0), or passed a stage whose next isn't Exit
abbrev pub Stays : Plan → ℕ → Place → ℕ → Type 0
Stays net p (Dec j) n = (n ≡ 1) ⊎ (net.next j ≢ net.stages)
Stays net p (Mark j) n = Unit {0}
Stays net p (Look j) n = (n ≡ 0) ⊎ (net.next j ≢ net.stages)
Stays net p (Spin j) n = (n ≡ p + 1) ⊎ (net.next j ≢ net.stages)
Stays net p Out n = ⊥
Stays net p (Naming i) n = ⊥
Stays net p (Named s) n = ⊥
Stays net p (Holding s) n = ⊥
Stays net p (Clearing s) n = ⊥
Stays net p (Inc j) n = ⊥
Stays net p (Unmark j) n = ⊥

-- the turn made the one access that was due for p, and tells Again exactly where that leaves p among the stages
pub record Turned (p : Pass) (t : Turn) : Type 0 where
  pub moved : Moved p (pass_in_turn t)
  pub again : IsAgain t ↔ Stays (plan p.table.net) p.number (due_at p) (value_found moved.ruled.world p.number (due_at p))
