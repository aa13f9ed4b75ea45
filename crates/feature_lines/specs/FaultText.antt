use Rattle.std.specs.Prelude.{ℕ, Bool, true, false, List, ◌++◌, Err, codes, decimal}
use Rattle.lic_text.specs.FaultText.{end_text}
use Rattle.lic_text.specs.Lines.{number_at}
use Rattle.feature_lines.specs.declared.fault.LicenceFault.{LicenceFault}
use Rattle.feature_lines.specs.declared.fault.LicenceFault.TheVariants.{Line, BadWord, BadCount, BadDate, BadVersion, TooManyPools, NoMemory}

-- the line at fault; want of memory stands at no line
abbrev pub licence_line : LicenceFault → ℕ
licence_line (Line fault) = number_at (Err fault)
licence_line (BadWord line word) = line
licence_line (BadCount line) = line
licence_line (BadDate line) = line
licence_line (BadVersion line) = line
licence_line (TooManyPools line) = line
licence_line NoMemory = 0

-- the words that are printed of a fault of a licence
abbrev pub licence_words : LicenceFault → List ℕ
licence_words (Line fault) = end_text fault
licence_words (BadWord line word) = codes "bad word"
licence_words (BadCount line) = codes "bad count"
licence_words (BadDate line) = codes "bad date"
licence_words (BadVersion line) = codes "bad version"
licence_words (TooManyPools line) = codes "too many pools"
licence_words NoMemory = codes "no memory"

-- what is printed of a fault of a licence: its words, and the number of a bad word behind them
abbrev pub licence_text : LicenceFault → List ℕ
licence_text (BadWord line word) = licence_words (BadWord line word) ++ codes " " ++ decimal word
licence_text fault = licence_words fault

-- whether a fault is one of the file, and not want of memory
abbrev pub is_of_licence : LicenceFault → Bool
is_of_licence (Line fault) = true
is_of_licence (BadWord line word) = true
is_of_licence (BadCount line) = true
is_of_licence (BadDate line) = true
is_of_licence (BadVersion line) = true
is_of_licence (TooManyPools line) = true
is_of_licence NoMemory = false
