use Rattle.std.proofs.Common.{◌≡◌, ◌≤◌, slice_index, cond, eqb}
use Rattle.kex_core.specs.Nets.{over}
use Rattle.kex_core.proofs.validity.starts_at.Given as goal

abbrev pub invariant-loop-p : goal.invariant-loop-p
invariant-loop-p l = (l.total ≡ over l.p (λ k. cond (eqb (slice_index l.start k) l.j) 1 0)) × (l.total ≤ l.p)
