use Rattle.std.proofs.Common.{◌≡◌, ℕ, Bool, true, false, ◌||◌, List, [], ◌∷◌, refl, sym, ap, ◌∙◌}
use Rattle.std.proofs.lemmas.Map.Text.{is_eq-slice_cmp}
use Rattle.std.specs.BTreeMap.{is_at}
use Rattle.std.specs.Cmp.Lexicographic.{bytes_decides, slice_cmp}
use Rattle.std.specs.List.{list_any}
use Rattle.std.specs.Ordering.{is_eq, match_ordering, nat_cmp}
use Rattle.std.specs.declared.cmp.Ordering.{Ordering}
use Rattle.std.specs.declared.cmp.Ordering.TheVariants.{Less, Equal, Greater}
use Rattle.lic_types.specs.Groups.{same_name}
use Rattle.lic_types.specs.NameSets.{has_name, with_name}

-- the order of bytes finds a name where an equal one is
pub finds_name : (name : List ℕ) (names : List (List ℕ)) → list_any (is_at (slice_cmp nat_cmp name)) names ≡ has_name name names
finds_name name [] = refl
finds_name name (k ∷ ks) =
    ap (λ (b : Bool). b || list_any (is_at (slice_cmp nat_cmp name)) ks) (is_eq-slice_cmp name k)
    ∙ ap (λ (b : Bool). same_name name k || b) (finds_name name ks)

to_end : (a b c : Bool) → (a || (b || c)) ≡ ((b || c) || (a || false))
to_end true true c = refl
to_end true false true = refl
to_end true false false = refl
to_end false true c = refl
to_end false false true = refl
to_end false false false = refl

there_already : (a b : Bool) → (a || b) ≡ ((a || b) || (a || false))
there_already true b = refl
there_already false true = refl
there_already false false = refl

further_on : (a b c : Bool) → (a || (b || (c || false))) ≡ ((a || b) || (c || false))
further_on true b c = refl
further_on false b c = refl

put_in : (name other : List ℕ) (k : List ℕ) (ks : List (List ℕ)) (o : Ordering) → slice_cmp nat_cmp other k ≡ o → has_name name (with_name ks other) ≡ (has_name name ks || (same_name name other || false))
    → has_name name (match_ordering o (other ∷ k ∷ ks) (k ∷ ks) (k ∷ with_name ks other)) ≡ ((same_name name k || has_name name ks) || (same_name name other || false))
put_in name other k ks Less e h = to_end (same_name name other) (same_name name k) (has_name name ks)
put_in name other k ks Equal e h =
    let same : other ≡ k = (bytes_decides other k).0 (sym (is_eq-slice_cmp other k) ∙ ap is_eq e) in
    there_already (same_name name k) (has_name name ks)
    ∙ ap (λ (n : List ℕ). (same_name name k || has_name name ks) || (same_name name n || false)) (sym same)
put_in name other k ks Greater e h = ap (λ (b : Bool). same_name name k || b) h ∙ further_on (same_name name k) (has_name name ks) (same_name name other)

-- the names with one more have that and those that they had
pub has_with : (name other : List ℕ) (names : List (List ℕ)) → has_name name (with_name names other) ≡ (has_name name names || (same_name name other || false))
has_with name other [] = refl
has_with name other (k ∷ ks) = put_in name other k ks (slice_cmp nat_cmp other k) refl (has_with name other ks)
