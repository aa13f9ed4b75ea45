-- The rule of a board's book, and what the step tells that adds an entry.
use Rattle.std.specs.Prelude.{◌≡◌, ℕ, true, List, [], ◌∷◌, ◌++◌, length}
use Rattle.logbook.specs.Pages.{Cell, Step, View, Book, Named}

-- the first word is the length of the list. A book has two words, and the second stays 0
abbrev pub IsCounted : {E : Type 0} → List Cell → List E → Type 0
IsCounted cells log = cells ≡ (length log, true) ∷ (0, true) ∷ []

-- the first word of a book
abbrev pub head_of : Book → Named
head_of b = record { tracked = true; key = 0; book = b }

-- where the number found is the one that was expected, the entry was added to all that had been seen
abbrev pub Adds : {E A : Type 0} → Step E → View E A → ℕ → View E A → Type 0
Adds s v found w = found ≡ s.old → w.0 ≡ v.0 ++ s.ask ∷ []
