use Rattle.std.proofs.Common.{◌+◌, ◌<◌, ◌≤◌, ℕ, slice_index, cond, eqb, length}
use Rattle.kex_core.specs.Nets.{over}
use Rattle.kex_core.proofs.validity.first_overfull.Given as goal

abbrev pub invariant-loop-j : goal.invariant-loop-j
invariant-loop-j l = (k : ℕ) → k < l.j → over l.n (λ p. cond (eqb (slice_index l.start p) k) 1 0) + over (length l.caps) (λ i. cond (eqb (slice_index l.next i) k) (slice_index l.caps i) 0) ≤ slice_index l.caps k + 1
