use Rattle.std.proofs.Common.{take}
use Rattle.line_protocol.specs.Streams.{IsFlat}
use Rattle.line_protocol.proofs.feeder.line_feed_at.Given as goal

abbrev pub invariant-loop-i : goal.invariant-loop-i
invariant-loop-i l = IsFlat (take l.i l.piece)
