use Rattle.std.proofs.Common.{◌≡◌, Ok, map}
use Rattle.lic_text.specs.Lines.{lines_of}
use Rattle.lic_text.specs.LinesLeft.{lines_left}
use Rattle.feature_lines.specs.Draft.{sofar_of}
use Rattle.feature_lines.specs.Line.{said_or_fault}
use Rattle.feature_lines.specs.Steps.{blank, sofar_after_lines}
use Rattle.feature_lines.proofs.licence.read_licence.Given as goal

-- the lines that are left bring what is read so far to what all lines bring
abbrev pub invariant-loop-line : goal.invariant-loop-line
invariant-loop-line l = sofar_after_lines (Ok (sofar_of l.draft)) (map said_or_fault (lines_left l.line-iterator)) ≡ sofar_after_lines (Ok blank) (map said_or_fault (lines_of l.file))
