use Rattle.std.proofs.Common.{◌≡◌, ◌+◌, ◌≤◌, length}
use Rattle.lic_text.specs.Physical.{physical_lines}
use Rattle.lic_text.specs.Prefix.{joined_text, has_no_end, line_count, lines_behind}
use Rattle.lic_text.proofs.extent.measure_further.Given as goal

-- what was read and what is left make up the whole
abbrev pub invariant-loop-rest : goal.invariant-loop-rest
invariant-loop-rest l = record {
  text : l.length + length (joined_text (physical_lines l.rest)) ≡ length (joined_text (physical_lines l.from));
  end : has_no_end (physical_lines l.rest) ≡ has_no_end (physical_lines l.from);
  numbers : l.count + line_count (physical_lines l.rest) ≡ line_count (physical_lines l.from);
  behind : lines_behind (physical_lines l.rest) ≡ lines_behind (physical_lines l.from);
  nearer : l.count + length l.rest ≤ length l.from;
  short : l.length + length l.rest ≤ length l.from;
}

abbrev pub decreases-loop-rest : goal.decreases-loop-rest
decreases-loop-rest l = length l.rest
