use Rattle.std.specs.Prelude.{ℕ, List, ◌++◌}
use Rattle.lic_text.specs.Physical.{physical_lines}
use Rattle.lic_text.specs.Lines.{Worded, words_of}
use Rattle.lic_text.specs.Prefix.{joined_text}
use Rattle.lic_text.specs.declared.words.Words.{Words}
use Rattle.lic_text.specs.declared.line.Line.{Line}

-- the words that are left: those of the physical line that is read, and those of the lines that it is continued by
abbrev pub words_left : Words → List (List ℕ)
words_left s = words_of s.text.now ++ words_of (joined_text (physical_lines s.further.now))

-- a line as its number and its words
abbrev pub worded_line : Line → Worded
worded_line line = (line.first, words_left line.words)
