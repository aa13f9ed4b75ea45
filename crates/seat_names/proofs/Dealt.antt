-- The passes of a table that was just made are of that table.
use Rattle.std.proofs.Common.{◌≡◌, List, Some, slice_get, EachIndex, All, ap}
use Rattle.std.proofs.lemmas.Option.{get_or_from_slice_get}
use Rattle.kex_words.specs.Passes.{TableNet, Pass, unused_pass}

pub dealt_own : (t : TableNet) (passes : List Pass) → EachIndex passes (λ i. slice_get passes i ≡ Some (unused_pass t i)) → All (λ (p : Pass). p.table ≡ t) passes
dealt_own t passes each = λ k d l. ap (λ (z : Pass). z.table) (get_or_from_slice_get passes k (unused_pass t k) d (each k l))
