-- Who is welcomed.
use Rattle.std.specs.Prelude.{ℕ, List, [], ◌∷◌}
use Rattle.counter.specs.Account.{Account}

-- the number of the first counter's party, or 0 where there is none
abbrev pub first_party : {C : Type 0} → (C → Account) → List C → ℕ
first_party account [] = 0
first_party account (c ∷ cs) = (account c).party
