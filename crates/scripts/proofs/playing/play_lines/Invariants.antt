use Rattle.std.proofs.Common.{drop, length}
use Rattle.scripts.specs.Played.{IsPlayed}
use Rattle.scripts.specs.Script.{output_of}
use Rattle.scripts.proofs.playing.play_lines.Given as goal

abbrev pub invariant-loop-line : goal.invariant-loop-line
invariant-loop-line g l = IsPlayed g.O.Sink.held g.O.Sink.faults (length l.options) l.line-index l.licence.pools l.runs (drop l.line-index l.lines) l.fn.out l.out l.gathered (output_of l.licence.pools l.options l.lines)
