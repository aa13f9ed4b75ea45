-- What a site gives and keeps.
use Rattle.std.specs.Prelude.{◌≡◌, ℕ, Bool, ◌&&◌, ◌||◌, nat_lt, List, []}
use Rattle.session_outside.specs.Talk.{Event}

-- what a site keeps of a post that was given back: its number, the talks of its door, and the moments of its clock
pub record Kept : Type 0 where
  pub number : ℕ
  pub talks : List (List Event)
  pub moments : List ℕ

-- nothing has come of a post yet
pub record IsNew {D K B : Type 0} (talks : D → List (List Event) → Type 0) (gave : K → List ℕ → Type 0) (faults quiets fails lent : D → ℕ) (tolls rings : B → ℕ) (door : D) (clock : K) (bell : B) : Type 0 where
  pub no_talks : talks door []
  pub no_moments : gave clock []
  pub no_faults : faults door ≡ 0
  pub no_quiets : quiets door ≡ 0
  pub no_fails : fails door ≡ 0
  pub none_lent : lent door ≡ 0
  pub no_tolls : tolls bell ≡ 0
  pub no_rings : rings bell ≡ 0

-- whether the bell of a post was heard at its door
abbrev pub was_heard : ℕ → ℕ → ℕ → Bool
was_heard tolls quiets faults = nat_lt 0 tolls && (nat_lt 0 quiets || nat_lt 0 faults)
