use Rattle.std.proofs.Common.{◌≡◌, ◌≤◌, vec_len, vec_capacity}
use Rattle.trial_run.specs.Fresh.{AreFresh}
use Rattle.trial_run.proofs.opening.links.Given as goal

abbrev pub invariant-loop-number : goal.invariant-loop-number
invariant-loop-number l = record {
  count : vec_len l.links ≡ l.number;
  fresh : AreFresh l.fn.rounds l.links.items;
  room : l.clients ≤ vec_capacity l.links;
}
