use Rattle.std.specs.Prelude.{◌≡◌, ℕ, List, ◌++◌, Option}
use Rattle.outside.specs.Told.{held_after}

-- of a whole text a prefix was written to a sink, where no write failed, and this is left
pub record IsLeft {S : Type 0} (held : S → Option (List ℕ)) (faults : S → ℕ) (old now : S) (left whole : List ℕ) : Type 0 where
  pub done : List ℕ
  pub written : held now ≡ held_after (held old) done
  pub all : done ++ left ≡ whole
  pub steady : faults now ≡ faults old
