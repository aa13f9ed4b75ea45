use Rattle.std.proofs.Common.{◌≡◌, true}
use Rattle.std.specs.List.{list_all}
use Rattle.lic_text.specs.LinesLeft.{lines_left}
use Rattle.log_audit.specs.Log.{is_fit, log_of}
use Rattle.log_audit.proofs.Lines.{as_far_as}
use Rattle.log_audit.proofs.log.read_log.Given as goal

-- the entries so far and those of the lines that are left are all of them
abbrev pub invariant-loop-line : goal.invariant-loop-line
invariant-loop-line l = record {
  lines : as_far_as l.pools l.log.items (lines_left l.line-iterator) ≡ log_of l.pools l.file;
  fit : list_all (is_fit l.pools) l.log.items ≡ true;
}
