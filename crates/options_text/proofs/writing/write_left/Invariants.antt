use Rattle.std.proofs.Common.{◌≡◌, ◌++◌}
use Rattle.options_text.specs.Canonical.{text_from}
use Rattle.options_text.specs.Merging.{IsRising, count, entries_in_order, file_left}
use Rattle.options_text.proofs.writing.write_left.Given as goal

-- the text so far and that of what is left are the whole text
abbrev pub invariant-loop-text : goal.invariant-loop-text
invariant-loop-text l = record {
  whole : l.text.items ++ text_from l.at (entries_in_order (file_left l.left)) ≡ text_from 1 (entries_in_order (file_left l.fn.left));
  rising : IsRising (file_left l.left);
}

abbrev pub decreases-loop-text : goal.decreases-loop-text
decreases-loop-text l = count (file_left l.left)
