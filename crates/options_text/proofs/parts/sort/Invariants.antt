use Rattle.std.proofs.Common.{◌≡◌}
use Rattle.options_text.specs.Options.{options_among}
use Rattle.options_text.specs.Parts.{file_of}
use Rattle.options_text.proofs.parts.sort.Given as goal

-- the parts are those of the entries so far
abbrev pub invariant-loop-entry : goal.invariant-loop-entry
invariant-loop-entry l = file_of l.parts ≡ options_among l.yielded
