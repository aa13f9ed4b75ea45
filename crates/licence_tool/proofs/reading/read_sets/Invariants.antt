use Rattle.std.proofs.Common.{length, map, string_bytes, take}
use Rattle.licence_tool.specs.Asked.{Asks}
use Rattle.licence_tool.specs.declared.status.Status.TheVariants.{Done}
use Rattle.licence_tool.proofs.Sets.{HeardSoFar}
use Rattle.licence_tool.proofs.reading.read_sets.Given as goal

abbrev pub invariant-loop-name : goal.invariant-loop-name
invariant-loop-name g l = record {
  heard : HeardSoFar string_bytes l.names (g.F.Files.contents l.fn.files) (g.F.Files.contents l.files) (length (g.F.Files.failed l.fn.files)) (length (g.F.Files.failed l.files)) l.name-index l.fn.options l.sets.items;
  asked : Asks 4 (take l.name-index (map string_bytes l.names)) (g.F.Files.asked l.fn.files) (g.F.Files.asked l.files) (g.F.Files.failed l.fn.files) (g.F.Files.failed l.files) Done;
}
