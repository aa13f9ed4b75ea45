use Rattle.std.specs.Prelude.{ℕ, List, map, Option, None, Some, Result, Ok, Err}
use Rattle.lic_text.specs.Lines.{Worded, lines_of}
use Rattle.lic_text.specs.declared.fault.TextFault.{TextFault}
use Rattle.script_words.specs.Fields.{at_line}
use Rattle.script_words.specs.Firsts.{all_or_first_fault}
use Rattle.script_words.specs.Texts.{at_its_line}
use Rattle.script_words.specs.declared.fault.ScriptFault.{ScriptFault}
use Rattle.script_text.specs.Words.{line_of_words}
use Rattle.script_text.specs.Line.{AskedLine}
use Rattle.script_text.specs.declared.refusal.ScriptRefusal.{ScriptRefusal}
use Rattle.script_text.specs.declared.refusal.ScriptRefusal.TheVariants.{Fault, NoMemory}

-- the script line of a logical line
abbrev pub line_of : Result Worded TextFault → Result AskedLine ScriptFault
line_of (Ok line) = at_line line.0 (line_of_words line.0 line.1)
line_of (Err fault) = Err (at_its_line fault)

-- the lines of a script, or its first line at fault
abbrev pub script_of : List ℕ → Result (List AskedLine) ScriptFault
script_of file = all_or_first_fault (map line_of (lines_of file))

-- the fault of a script that a refusal tells; want of memory tells none
abbrev pub fault_told : ScriptRefusal → Option ScriptFault
fault_told (Fault fault) = Some fault
fault_told NoMemory = None
