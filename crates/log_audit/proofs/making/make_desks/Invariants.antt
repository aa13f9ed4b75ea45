use Rattle.std.proofs.Common.{◌≡◌, map, take}
use Rattle.std.specs.List.{AllByRecursion}
use Rattle.log_audit.specs.Kept.{HasLawfulSets, desk_of}
use Rattle.log_audit.proofs.making.make_desks.Given as goal

abbrev pub invariant-loop-pool : goal.invariant-loop-pool
invariant-loop-pool l = record {
  desks : l.desks.items ≡ map (desk_of l.options) (take l.pool-index l.pools);
  lawful : AllByRecursion HasLawfulSets l.desks.items;
}
