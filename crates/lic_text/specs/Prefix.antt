use Rattle.std.specs.Prelude.{ℕ, ◌+◌, Bool, true, false, if◌then◌else◌, List, [], ◌∷◌, ◌++◌}
use Rattle.lic_text.specs.Physical.{is_continued, without_last}

-- The logical line at the beginning of physical lines, none of them read as a comment.

-- its text
abbrev pub joined_text : List (List ℕ) → List ℕ
joined_text [] = []
joined_text (text ∷ texts) = if is_continued text then without_last text ++ 32 ∷ joined_text texts else text

-- whether it has no end
abbrev pub has_no_end : List (List ℕ) → Bool
has_no_end [] = true
has_no_end (text ∷ texts) = if is_continued text then has_no_end texts else false

-- how many physical lines it has
abbrev pub line_count : List (List ℕ) → ℕ
line_count [] = 0
line_count (text ∷ texts) = if is_continued text then 1 + line_count texts else 1

-- the physical lines behind it
abbrev pub lines_behind : List (List ℕ) → List (List ℕ)
lines_behind [] = []
lines_behind (text ∷ texts) = if is_continued text then lines_behind texts else texts
