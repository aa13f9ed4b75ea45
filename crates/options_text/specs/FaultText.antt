use Rattle.std.specs.Prelude.{ℕ, Bool, true, false, List, Err, codes}
use Rattle.lic_text.specs.FaultText.{end_text}
use Rattle.lic_text.specs.Lines.{number_at}
use Rattle.options_text.specs.declared.fault.OptionsFault.{OptionsFault}
use Rattle.options_text.specs.declared.fault.OptionsFault.TheVariants.{Line, UnknownKeyword, MissingWord, BadNumber, UnknownKind, UnknownGroup, Selector, BadName, TooMany, NoMemory}

-- the line at fault; want of memory stands at no line
abbrev pub options_line : OptionsFault → ℕ
options_line (Line fault) = number_at (Err fault)
options_line (UnknownKeyword line) = line
options_line (MissingWord line) = line
options_line (BadNumber line) = line
options_line (UnknownKind line) = line
options_line (UnknownGroup line) = line
options_line (Selector line) = line
options_line (BadName line) = line
options_line (TooMany line) = line
options_line NoMemory = 0

-- what is printed of a fault of an options file
abbrev pub options_text : OptionsFault → List ℕ
options_text (Line fault) = end_text fault
options_text (UnknownKeyword line) = codes "unknown keyword"
options_text (MissingWord line) = codes "missing word"
options_text (BadNumber line) = codes "bad number"
options_text (UnknownKind line) = codes "unknown kind"
options_text (UnknownGroup line) = codes "unknown group"
options_text (Selector line) = codes "selector"
options_text (BadName line) = codes "bad name"
options_text (TooMany line) = codes "too many"
options_text NoMemory = codes "no memory"

-- whether a fault is one of the file, and not want of memory
abbrev pub is_of_options : OptionsFault → Bool
is_of_options (Line fault) = true
is_of_options (UnknownKeyword line) = true
is_of_options (MissingWord line) = true
is_of_options (BadNumber line) = true
is_of_options (UnknownKind line) = true
is_of_options (UnknownGroup line) = true
is_of_options (Selector line) = true
is_of_options (BadName line) = true
is_of_options (TooMany line) = true
is_of_options NoMemory = false
