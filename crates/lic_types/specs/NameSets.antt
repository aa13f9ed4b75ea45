-- Sets of names, as their list in the order of bytes.
use Rattle.std.specs.Prelude.{ℕ, Bool, List}
use Rattle.std.specs.BTreeSet.{insert_key}
use Rattle.std.specs.Cmp.Lexicographic.{slice_cmp}
use Rattle.std.specs.List.{list_any}
use Rattle.std.specs.Ordering.{nat_cmp}
use Rattle.lic_types.specs.Groups.{same_name}

-- one of the names is this
abbrev pub has_name : List ℕ → List (List ℕ) → Bool
has_name name names = list_any (same_name name) names

-- the names with one more, at its place in the order of their bytes
abbrev pub with_name : List (List ℕ) → List ℕ → List (List ℕ)
with_name names name = insert_key (slice_cmp nat_cmp) names name
