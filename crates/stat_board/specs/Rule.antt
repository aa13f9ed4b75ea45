-- The rule of what is published.
use Rattle.std.specs.Prelude.{◌≡◌, ℕ, Bool, true, List, [], fold, Option, Some}
use mathlib.Core.Option.{some}
use lib.ListN.{get_elem?}
use Rattle.logbook.specs.Pages.{Named}
use Rattle.stat_board.specs.Counted.{head_of}
use Rattle.stat_board.specs.Fronts.{Front, IsSameBoard, IsLater}

-- x is later than every front that a seat knows
abbrev pub Keeps : Front → List (Option Front) → Type 0
Keeps x views = (seat : ℕ) (f : Front) → get_elem? views seat ≡ some (Some f) → IsLater f x

-- the seat knows y afterwards, which is later than what it knew
abbrev pub Knows : Option Front → Front → Front → Option Front → Type 0
Knows v x y w = ((f : Front) → v ≡ Some f → IsLater f y) × (w ≡ Some y)

-- a seat knows some front of the board that f is of
abbrev pub IsTold : Front → Option Front → Type 0
IsTold f v = (g : Front) × (v ≡ Some g) × IsSameBoard f g

-- the last of the operations, or what is shown where there is none
abbrev pub last_of : Front → List Front → Front
last_of shown pending = fold (λ f next. next) shown pending

-- what is shown is this front, the writer knows that, and nothing is pending
pub record IsPublished (x : Front) (v : Option Front) (pending : List Front) (f : Front) : Type 0 where
  pub shown : x ≡ f
  pub knows : v ≡ Some f
  pub done : pending ≡ []

-- what a board keeps: its word is that of its list, what is shown is its last front, which its writer knows, and nothing is pending while it is live
pub record IsPosting (w : Named) (x y : Front) (v : Option Front) (live : Bool) (pending : List Front) : Type 0 where
  pub head : w ≡ head_of x.board
  pub shown : y ≡ x
  pub knows : v ≡ Some x
  pub done : live ≡ true → pending ≡ []

-- the front that was published last, and whether more is published
pub record Posted : Type 0 where
  pub front : Front
  pub live : Bool
