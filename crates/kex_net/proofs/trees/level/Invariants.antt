use Rattle.std.proofs.Common.{◌≡◌, ◌+◌, ◌*◌, ◌<◌, ◌^◌, ◌++◌, drop, length, sum}
use Rattle.kex_net.specs.Trees.{above, level_caps, level_nexts, level_meets}
use Rattle.kex_net.proofs.trees.level.Given as goal

abbrev pub invariant-loop-pair : goal.invariant-loop-pair
invariant-loop-pair l = record {
  caps : l.stages.caps.items ++ level_caps l.m (drop (2 * l.pair) l.sizes) ≡ level_caps l.m l.sizes;
  nexts : l.stages.next.items ++ level_nexts l.m l.first (drop (2 * l.pair) l.sizes) (drop l.pair l.ups) ≡ level_nexts l.m l.base l.sizes l.ups;
  meets : l.stages.meets.items ++ level_meets l.m l.first (drop (2 * l.pair) l.sizes) (drop l.pair l.ups) ≡ level_meets l.m l.base l.sizes l.ups;
  ups : length (drop l.pair l.ups) ≡ length (above l.m (drop (2 * l.pair) l.sizes));
  room : l.first + sum (drop (2 * l.pair) l.sizes) < 2 ^ 32;
}
