use Rattle.std.proofs.Common.{◌≡◌, ℕ, ◌+◌, ◌<◌, List, [], ◌∷◌, ◌++◌, length, get_or, take, Option, None, Some, refl, sym, ap, ◌∙◌, append_assoc}
use Rattle.std.specs.List.{filter_map}
use Rattle.std.specs.Option.{option_to_list}
use Rattle.std.proofs.lemmas.List.{take_more}
use Rattle.std.specs.List.{cons_option}
use Rattle.std.proofs.lemmas.List.Elements.{filter_map-append}

one_more : {X Y : Type 0} (h : X → Option Y) (x : X) → filter_map h (x ∷ []) ≡ option_to_list (h x)
one_more h x = elim (h x) as (λ o. cons_option o [] ≡ option_to_list o) [ None ↦ refl | Some y ↦ refl ]

more : {X Y : Type 0} (h : X → Option Y) (xs : List X) (x : X) → filter_map h (xs ++ x ∷ []) ≡ filter_map h xs ++ option_to_list (h x)
more h xs x = filter_map-append h xs (x ∷ []) ∙ ap (λ ys. filter_map h xs ++ ys) (one_more h x)

-- what comes of one element more is behind what came of the others
pub filter_map_more : {X Y : Type 0} (h : X → Option Y) (xs : List X) (i : ℕ) (x : X) (front old new : List Y)
    → i < length xs → x ≡ get_or xs i x → old ≡ front ++ filter_map h (take i xs) → new ≡ old ++ option_to_list (h x) → new ≡ front ++ filter_map h (take (i + 1) xs)
filter_map_more {X} {Y} h xs i x front old new within is so_far put =
    put
    ∙ (ap (λ (a : List Y). a ++ option_to_list (h x)) so_far
    ∙ (append_assoc front (filter_map h (take i xs)) (option_to_list (h x))
    ∙ ap (λ (a : List Y). front ++ a)
    (sym (ap (filter_map h) (take_more xs i x within ∙ ap (λ (y : X). take i xs ++ y ∷ []) (sym is)) ∙ more h (take i xs) x))))
