use Rattle.std.specs.Prelude.{◌+◌, List, Result, Ok, Err}
use Rattle.lic_text.specs.Physical.{physical_lines}
use Rattle.lic_text.specs.Lines.{Worded, lines_from}
use Rattle.lic_text.specs.Left.{worded_line}
use Rattle.lic_text.specs.declared.line.Line.{Line}
use Rattle.lic_text.specs.declared.logical.Lines.{Lines}
use Rattle.lic_text.specs.declared.fault.TextFault.{TextFault}

-- what is seen of an item
abbrev pub item_view : Result Line TextFault → Result Worded TextFault
item_view (Ok line) = Ok (worded_line line)
item_view (Err fault) = Err fault

-- the lines that are left
abbrev pub lines_left : Lines → List (Result Worded TextFault)
lines_left s = lines_from (s.passed + 1) (physical_lines s.rest.now)
