use Rattle.std.specs.Prelude.{◌≡◌, ℕ, ◌+◌, ◌<◌, nat_eq, List, [], ◌∷◌, if◌then◌else◌}
use Rattle.std.specs.Cmp.Lexicographic.{pointwise, slice_cmp}
use Rattle.std.specs.List.{AllByRecursion}
use Rattle.std.specs.Ordering.{nat_cmp}
use Rattle.std.specs.declared.cmp.Ordering.{Ordering}
use Rattle.options_machine.specs.declared.reply.Entry.{Entry}
use Rattle.log_audit.specs.Summed.{grants}

-- names in the order of their bytes
abbrev pub name_order : List ℕ → List ℕ → Ordering
name_order = slice_cmp nat_cmp

-- how many grants of a user were counted
abbrev pub counted_of : List ℕ → List (List ℕ × ℕ) → ℕ
counted_of name [] = 0
counted_of name (e ∷ es) = if pointwise nat_eq e.0 name then e.1 else counted_of name es

-- one entry more was counted, and no user is listed without a grant
pub record CountsOne (old new : List (List ℕ × ℕ)) (e : Entry) : Type 0 where
  pub told : (name : List ℕ) → counted_of name new ≡ counted_of name old + (if grants name e then 1 else 0)
  pub some : AllByRecursion (λ (listed : List ℕ × ℕ). 0 < listed.1) new
