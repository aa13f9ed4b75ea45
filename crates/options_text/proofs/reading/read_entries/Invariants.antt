use Rattle.std.proofs.Common.{◌≡◌, ◌≤◌, [], true, sum_by}
use Rattle.std.specs.List.{list_all}
use Rattle.lic_text.specs.Lines.{lines_of}
use Rattle.lic_text.specs.LinesLeft.{lines_left}
use Rattle.options_text.specs.Answers.{with_prefix}
use Rattle.options_text.specs.Entries.{entries_after, is_fit, members_in}
use Rattle.options_text.proofs.reading.read_entries.Given as goal

-- the entries so far and those of the lines that are left are all of them
abbrev pub invariant-loop-line : goal.invariant-loop-line
invariant-loop-line l = record {
  entries : with_prefix l.entries.items (entries_after l.entries.items (lines_left l.line-iterator)) ≡ entries_after [] (lines_of l.file);
  members : l.members ≡ sum_by members_in l.entries.items;
  few : l.members ≤ 65536;
  fit : list_all is_fit l.entries.items ≡ true;
}
