use Rattle.std.specs.Prelude.{ℕ, nat_eq, Bool, true, false, ◌||◌, List, [], ◌∷◌, ◌++◌, codes, decimal}
use Rattle.std.specs.Cmp.Lexicographic.{pointwise}

-- whether a log ends with its pool's entries, or there were more
abbrev pub end_text : Bool → List ℕ
end_text true = codes " CUT"
end_text false = codes " WHOLE"

-- the line that ends the log of a pool
abbrev pub log_text : ℕ → ℕ → Bool → List ℕ
log_text pool entries cut = codes "LOG " ++ decimal pool ++ codes " ENTRIES " ++ decimal entries ++ end_text cut ++ 10 ∷ []

-- the line of a pool's tally
abbrev pub tally_text : ℕ → ℕ → ℕ → ℕ → List ℕ
tally_text pool calls grants uses =
    codes "TALLY " ++ decimal pool ++ codes " CALLS " ++ decimal calls ++ codes " GRANTS " ++ decimal grants ++ codes " CARD USES " ++ decimal uses ++ 10 ∷ []

-- whether a line with these words sums up a log, and has no entry: its first word is LOG or TALLY
abbrev pub is_summary : List (List ℕ) → Bool
is_summary [] = false
is_summary (word ∷ words) = pointwise nat_eq word (codes "LOG") || pointwise nat_eq word (codes "TALLY")
