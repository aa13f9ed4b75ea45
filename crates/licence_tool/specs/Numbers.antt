-- Numbers among the words of a command.
use Rattle.std.specs.Prelude.{ℕ, ◌&&◌, nat_le, if◌then◌else◌, List, Option, None, Some}
use Rattle.lic_text.specs.Number.{number_of}

-- a number from the least to the most
abbrev pub only_within : ℕ → ℕ → Option ℕ → Option ℕ
only_within least most None = None
only_within least most (Some n) = if nat_le least n && nat_le n most then Some n else None

-- the number that a word writes, if it is from the least to the most
abbrev pub number_within : ℕ → ℕ → List ℕ → Option ℕ
number_within least most word = only_within least most (number_of word)
