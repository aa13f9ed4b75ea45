-- A stage whose capacity is all that may come to the next is the only one that leads there.
use Rattle.std.proofs.Common.{◌≡◌, ◌≢◌, ℕ, ◌+◌, ◌<◌, ◌≤◌, true, cond, eqb, ⊎_elim, arith}
use Rattle.std.proofs.lemmas.Bool.{eq-eqb}
use Rattle.kex_core.specs.Nets.{Plan, Valid, starts, feeds, on_path, before}
use Rattle.kex_core.proofs.Sums.{same_or, yes_is, over_two}
use Rattle.kex_core.proofs.Moves.{before_is}

pub sole : (net : Plan) (p j i : ℕ) → Valid net → p < net.parties → j ≤ net.stages → on_path net p j ≡ true → net.start p ≢ j → i < net.stages → net.next i ≡ j
    → starts net j + feeds net j ≤ net.cap i → i ≡ before net p j
sole net p j i valid l s o d li leads fills = ⊎_elim (λ (e : i ≡ before net p j). e)
    (λ (n : i ≢ before net p j). absurd (
    let r = before_is net valid p l j s o d in let below = r.2 in
    let lb : before net p j < net.stages = omega arith in
    let two = over_two net.stages (λ k. cond (eqb (net.next k) j) (net.cap k) 0) i (before net p j) li lb n in
    let a : cond (eqb (net.next i) j) (net.cap i) 0 ≡ net.cap i = yes_is (eqb (net.next i) j) (net.cap i) 0 (eq-eqb (net.next i) j leads) in
    let b : cond (eqb (net.next (before net p j)) j) (net.cap (before net p j)) 0 ≡ net.cap (before net p j) = yes_is (eqb (net.next (before net p j)) j) (net.cap (before net p j)) 0 (eq-eqb (net.next (before net p j)) j r.0) in
    let c = valid.cap (before net p j) lb in
    omega arith)) (same_or i (before net p j))
