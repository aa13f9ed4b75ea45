use Rattle.std.proofs.Common.{◌≡◌, ◌++◌, length, vec_capacity}
use Rattle.std.specs.Vec.Iter.{into_iter_items, into_iter_len}
use Rattle.trial_run.specs.Played.{counters_of}
use Rattle.trial_run.proofs.holding.take_counters.Given as goal

abbrev pub invariant-loop-player : goal.invariant-loop-player
invariant-loop-player l = record {
  all : l.yielded ++ into_iter_items l.player-iterator ≡ l.fn.players.items;
  sized : length (into_iter_items l.player-iterator) ≡ into_iter_len l.player-iterator;
  passes : l.passes.items ≡ l.fn.passes.items ++ counters_of l.yielded;
  room : vec_capacity l.passes ≡ vec_capacity l.fn.passes;
}
