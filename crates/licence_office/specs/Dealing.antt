-- How passes go to the parties and come back.
use Rattle.std.specs.Prelude.{◌≡◌, ℕ, ◌<◌, ◌≤◌, List, [], ◌∷◌, ◌++◌, get_or, length, Vec, vec_capacity, vec_len}
use Rattle.feature_desk.specs.Sitters.{Sitter}

-- an empty list with room for so many passes
pub record IsRoomFor {Z : Type 0} (many : ℕ) (p : Vec Sitter Z) : Type 0 where
  pub empty : p.items ≡ []
  pub none : vec_len p ≡ 0
  pub room : many ≤ vec_capacity p

-- the passes from this party on were handed out: each of these parties has one more, of its own number, and the others have what they had
pub record IsHanded {Z : Type 0} (passes : List Sitter) (old new : List (Vec Sitter Z)) (from : ℕ) : Type 0 where
  pub same : length new ≡ length old
  pub handed : (k : ℕ) (v : Vec Sitter Z) (s : Sitter) → from ≤ k → k < length old → (get_or new k v).items ≡ (get_or old k v).items ++ get_or passes k s ∷ []
  pub others : (k : ℕ) (v : Vec Sitter Z) → k < from → get_or new k v ≡ get_or old k v
  pub room : (k : ℕ) (v : Vec Sitter Z) → vec_capacity (get_or new k v) ≡ vec_capacity (get_or old k v)

-- each party's last pass was taken in, in the order of the parties
pub record IsTaken {Z : Type 0} (old new : List (Vec Sitter Z)) (passes : List Sitter) : Type 0 where
  pub same : length new ≡ length old
  pub count : length passes ≡ length old
  pub taken : (k : ℕ) (v : Vec Sitter Z) (s : Sitter) → k < length old → (get_or old k v).items ≡ (get_or new k v).items ++ get_or passes k s ∷ []
