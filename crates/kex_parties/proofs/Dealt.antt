-- The parties of a table that was just made are of that table, and rest.
use Rattle.std.proofs.Common.{◌≡◌, ℕ, ◌<◌, List, Option, Some, map, length, option_map, slice_get, EachIndex, All, ap, ◌∙◌}
use Rattle.std.proofs.lemmas.Option.{get_or_from_slice_get, slice_get-map}
use Rattle.kex_words.specs.Passes.{TableNet, Pass, unused_pass}

module _ (t : TableNet) (passes : List Pass) (each : EachIndex passes (λ i. slice_get passes i ≡ Some (unused_pass t i))) where
  pub dealt_own : All (λ (p : Pass). p.table ≡ t) passes
  dealt_own = λ k d l. ap (λ (z : Pass). z.table) (get_or_from_slice_get passes k (unused_pass t k) d (each k l))

  pub dealt_rested : (made : List (Option Pass)) → made ≡ map Some passes → (i : ℕ) → i < length passes → slice_get made i ≡ Some (Some (unused_pass t i))
  dealt_rested made e i l = ap (λ (z : List (Option Pass)). slice_get z i) e ∙ slice_get-map Some passes i ∙ ap (option_map Some) (each i l)
