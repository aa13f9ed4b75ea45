-- The numbers that a view stands for, and sums over all views.
use Rattle.std.specs.Prelude.{ℕ, ◌+◌, ◌-◌, List, [], ◌∷◌}
use Rattle.pass_roles.specs.declared.role.Role.{Role}
use Rattle.pass_roles.specs.declared.role.Role.TheVariants.{Maker, Party, Spent}

-- what all members are worth together
abbrev pub total : {X : Type 0} → (X → ℕ) → List X → ℕ
total f [] = 0
total f (x ∷ xs) = f x + total f xs

-- how many passes the maker has dealt
abbrev pub made_of : Role → ℕ
made_of (Maker m) = m
made_of (Party p) = 0
made_of Spent = 0

-- the number of a party
abbrev pub number_of : Role → ℕ
number_of (Maker m) = 0
number_of (Party p) = p
number_of Spent = 0

-- how many numbers a view stands for, with k joined into it: the maker's are those that it has still to give
abbrev pub weigh : ℕ → ℕ → Role → ℕ
weigh n k (Maker m) = n - m
weigh n k (Party p) = 1 + k
weigh n k Spent = 0
