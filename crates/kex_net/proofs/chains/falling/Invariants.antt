use Rattle.std.proofs.Common.{◌≡◌, ◌-◌, ◌<◌, ℕ, length, slice_index}
use Rattle.kex_net.proofs.chains.falling.Given as goal

abbrev pub invariant-loop-j : goal.invariant-loop-j
invariant-loop-j l = (length l.caps.items ≡ l.j) × ((k : ℕ) → k < l.j → slice_index l.caps.items k ≡ l.n - 1 - k)
