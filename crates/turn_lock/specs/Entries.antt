-- Entries, and lists of them.
use Rattle.std.specs.Prelude.{◌≡◌, ℕ, ◌==◌, List, ◌++◌, filter}
use Rattle.turn_lock.specs.declared.kept.Entry.{Entry}

-- what was asked, the moment that was used, and the answer
abbrev pub entry : {Q A : Type 0} → Q → ℕ → A → Entry Q A
entry q m a = record { request = q; used = m; answer = a }

abbrev pub IsPrefix : {X : Type 0} → List X → List X → Type 0
IsPrefix {X} xs ys = (rest : List X) × (ys ≡ xs ++ rest)

-- the entries of one party
abbrev pub own : {Q A : Type 0} → (Q → ℕ) → ℕ → List (Entry Q A) → List (Entry Q A)
own party p h = filter (λ e. party e.request == p) h
