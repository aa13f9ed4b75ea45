-- Seats with a gate and without.
use Rattle.std.proofs.Common.{◌≡◌, Option, None, Some, sym, ◌∙◌}
use Rattle.atomic_table.specs.Seated.{TableId}

-- there is a gate or there is none
pub no_gate : {X : Type 0} (o : Option TableId) (id : TableId) → o ≡ None → o ≡ Some id → X
no_gate o id none some = absurd (let never : None ≡ Some id = sym none ∙ some in cc)

some_same : (a b : TableId) → Some a ≡ Some b → a ≡ b
some_same a b e = cc
