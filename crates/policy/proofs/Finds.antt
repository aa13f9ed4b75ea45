use Rattle.std.proofs.Common.{◌≡◌, ℕ, ◌+◌, Bool, true, false, ◌||◌, cond, List, [], ◌∷◌, ◌++◌, Option, None, Some, is_some, drop, find, slice_get, refl, ap, ◌∙◌, append_assoc}
use Rattle.std.proofs.lemmas.List.{drop_more}
use Rattle.std.proofs.lemmas.Option.{get_or_from_slice_get, slice_get_within}
use Rattle.std.specs.List.{filter_map, list_any}
use Rattle.std.specs.Option.{option_map}

-- one passes exactly where a first one is found
pub any_found : {X Y : Type 0} (f : X → Y) (p : X → Bool) (xs : List X) → is_some (option_map f (find p xs)) ≡ list_any p xs
any_found f p [] = refl
any_found f p (x ∷ xs) = by (p x) (any_found f p xs)
  where
    by : (b : Bool) → is_some (option_map f (find p xs)) ≡ list_any p xs → is_some (option_map f (cond b (Some x) (find p xs))) ≡ (b || list_any p xs)
    by true h = refl
    by false h = h

-- what is left of a list begins with what is got at that place
pub next_item : {X : Type 0} (xs : List X) (i : ℕ) (x : X) → slice_get xs i ≡ Some x → drop i xs ≡ x ∷ drop (i + 1) xs
next_item {X} xs i x e = drop_more xs i x (slice_get_within xs i x e) ∙ ap (λ (y : X). y ∷ drop (i + 1) xs) (get_or_from_slice_get xs i x x e)

-- a step of a filter that finds something
pub filter_map_found : {X Y : Type 0} (f : X → Option Y) (ys : List Y) (xs : List X) (i : ℕ) (x : X) (y : Y) → slice_get xs i ≡ Some x → f x ≡ Some y → (ys ++ y ∷ []) ++ filter_map f (drop (i + 1) xs) ≡ ys ++ filter_map f (drop i xs)
filter_map_found f ys xs i x y e g = rw (next_item xs i x e, g) (append_assoc ys (y ∷ []) (filter_map f (drop (i + 1) xs)))

-- and of one that finds nothing
pub filter_map_passed : {X Y : Type 0} (f : X → Option Y) (xs : List X) (i : ℕ) (x : X) → slice_get xs i ≡ Some x → f x ≡ None → filter_map f (drop (i + 1) xs) ≡ filter_map f (drop i xs)
filter_map_passed f xs i x e g = rw (next_item xs i x e, g) refl
