use Rattle.std.proofs.Common.{◌≡◌, ◌<◌, ◌/◌, ℕ, length, slice_index}
use Rattle.kex_net.proofs.trees.starts.Given as goal

abbrev pub invariant-loop-party : goal.invariant-loop-party
invariant-loop-party l = (length l.start.items ≡ l.party) × ((p : ℕ) → p < l.party → slice_index l.start.items p ≡ slice_index l.meets (p / l.m))
