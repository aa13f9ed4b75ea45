use Rattle.std.specs.Prelude.{ℕ, ◌<◌, List, [], ◌∷◌}

-- each number is above the one before, and the first above this one
abbrev pub Rises : ℕ → List ℕ → Type 0
Rises n [] = Unit {0}
Rises n (x ∷ xs) = (n < x) × Rises x xs

-- each number is above the one before
abbrev pub AreRising : List ℕ → Type 0
AreRising [] = Unit {0}
AreRising (x ∷ xs) = Rises x xs
