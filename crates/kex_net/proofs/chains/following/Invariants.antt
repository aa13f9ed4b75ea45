use Rattle.std.proofs.Common.{◌≡◌, ◌+◌, ◌<◌, ℕ, length, slice_index}
use Rattle.kex_net.proofs.chains.following.Given as goal

abbrev pub invariant-loop-j : goal.invariant-loop-j
invariant-loop-j l = (length l.next.items ≡ l.j) × ((k : ℕ) → k < l.j → slice_index l.next.items k ≡ k + 1)
