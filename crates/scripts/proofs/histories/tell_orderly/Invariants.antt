use Rattle.std.proofs.Common.{take}
use Rattle.scripts.specs.Laws.{AreOrderly}
use Rattle.scripts.proofs.histories.tell_orderly.Given as goal

abbrev pub invariant-loop-file : goal.invariant-loop-file
invariant-loop-file l = AreOrderly (take l.file-index l.options)
