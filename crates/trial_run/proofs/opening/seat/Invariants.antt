use Rattle.std.proofs.Common.{◌≡◌, ◌+◌, ◌++◌, reverse, vec_len, vec_capacity}
use Rattle.trial_run.specs.Played.{counters_of, links_of}
use Rattle.trial_run.proofs.opening.seat.Given as goal

abbrev pub invariant-loop-counters : goal.invariant-loop-counters
invariant-loop-counters l = record {
  counters : l.passes.items ++ reverse (counters_of l.players.items) ≡ l.fn.passes.items;
  linked : l.links.items ++ reverse (links_of l.players.items) ≡ l.fn.links.items;
  same : vec_len l.passes ≡ vec_len l.links;
  count : vec_len l.passes + vec_len l.players ≡ vec_len l.fn.passes;
  room : vec_capacity l.players ≡ vec_capacity l.fn.players;
  left : vec_capacity l.passes ≡ vec_capacity l.fn.passes;
}

abbrev pub decreases-loop-counters : goal.decreases-loop-counters
decreases-loop-counters l = vec_len l.passes
