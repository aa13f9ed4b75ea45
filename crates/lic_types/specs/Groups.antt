use Rattle.std.specs.Prelude.{ℕ, Bool, nat_eq, List}
use Rattle.std.specs.Cmp.Lexicographic.{pointwise}

-- a GROUP line, or a HOST_GROUP line: its physical line, its name and the names that it lists
pub record GroupLine : Type 0 where
  pub line : ℕ
  pub of_hosts : Bool
  pub name : List ℕ
  pub members : List (List ℕ)

-- two names are the same bytes
abbrev pub same_name : List ℕ → List ℕ → Bool
same_name a b = pointwise nat_eq a b
