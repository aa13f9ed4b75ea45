use Rattle.std.proofs.Common.{◌≡◌, ◌≤◌, ◌*◌, ◌^◌, slice_index, cond, eqb}
use Rattle.kex_core.specs.Nets.{over}
use Rattle.kex_core.proofs.validity.feeds_of.Given as goal

abbrev pub invariant-loop-i : goal.invariant-loop-i
invariant-loop-i l = (l.total ≡ over l.i (λ k. cond (eqb (slice_index l.next k) l.j) (slice_index l.caps k) 0)) × (l.total ≤ l.i * 2 ^ 32)
