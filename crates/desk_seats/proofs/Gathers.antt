-- Passes that were made, and sessions that were taken in.
use Rattle.std.proofs.Common.{◌≡◌, ℕ, ◌%◌, ◌^◌, List, length, map, ap, sym, ◌∙◌, subst, arith, All, EachIndex, Some, slice_get}
use Rattle.std.proofs.lemmas.List.{length-map}
use Rattle.std.proofs.lemmas.List.Elements.{All-map}
use Rattle.std.proofs.lemmas.Option.{slice_get-map}
use Rattle.std.specs.Option.{option_map}
use Rattle.kex_words.specs.Passes.{counted_card}
use Rattle.kex_gate.specs.Passes.{Guest, used_by}
use Rattle.desk_seats.specs.Views.{SeatsView}
use Rattle.desk_seats.specs.Passes.{SeatPass}
use Rattle.desk_seats.specs.Taken.{got_by}
use Rattle.desk_seats.proofs.Lists.{times-got_by}

pub used_counted : (passes : List Guest) (s : ℕ) → used_by passes s ≡ counted_card (got_by passes) s
used_counted passes s = λ i. record { number = s; uses = times-got_by passes s i % 2 ^ 64 }

module _ {X : Type 0} (f : X → SeatPass) (xs : List X) (ys : List SeatPass) (are : ys ≡ map f xs) where
  -- the passes of the parties, in order
  pub lifted : (at : ℕ → X) → EachIndex xs (λ i. slice_get xs i ≡ Some (at i)) → EachIndex ys (λ i. slice_get ys i ≡ Some (f (at i)))
  lifted at each i lt =
      let n : length ys ≡ length xs = ap length are ∙ length-map xs f in
      ap (λ (l : List SeatPass). slice_get l i) are ∙ (slice_get-map f xs i ∙ ap (option_map f) (each i (omega (arith, lt, n))))

  -- each is of the seats
  pub lifted_own : (P : X → Type 0) (v : SeatsView) → ((x : X) → P x → (f x).table ≡ v) → All P xs → All (λ (p : SeatPass). p.table ≡ v) ys
  lifted_own P v own all = subst (All (λ (p : SeatPass). p.table ≡ v)) (sym are) (All-map (λ (p : SeatPass). p.table ≡ v) f xs (λ k d lt. own _ (all k d lt)))
