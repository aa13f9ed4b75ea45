use Rattle.std.proofs.Common.{◌≡◌, List, [], ◌∷◌, ◌++◌, Option, None, Some, refl, ap, ◌∙◌}
use Rattle.std.specs.List.{filter_map}
use Rattle.std.proofs.lemmas.List.Elements.{filter_map-append}
use Rattle.options_text.specs.Options.{and_one, group_in, log_in, note_in, options_among, rule_in, with_entry}
use Rattle.options_text.specs.declared.entry.Entry.{Entry}

one_more : {X Y : Type 0} (h : X → Option Y) (x : X) → filter_map h (x ∷ []) ≡ Rattle.std.specs.Option.option_to_list (h x)
one_more h x = elim (h x) as (λ o. Rattle.std.specs.List.cons_option o [] ≡ Rattle.std.specs.Option.option_to_list o) [ None ↦ refl | Some y ↦ refl ]

more : {X Y : Type 0} (h : X → Option Y) (xs : List X) (x : X) → filter_map h (xs ++ x ∷ []) ≡ and_one (filter_map h xs) (h x)
more h xs x = filter_map-append h xs (x ∷ []) ∙ ap (λ ys. filter_map h xs ++ ys) (one_more h x)

-- one entry more
pub sorted_more : (entries : List Entry) (entry : Entry) → options_among (entries ++ entry ∷ []) ≡ with_entry (options_among entries) entry
sorted_more entries entry = rw (more group_in entries entry, more rule_in entries entry, more note_in entries entry, more log_in entries entry) refl
