use Rattle.std.specs.Prelude.{◌≡◌, ℕ, List, length, drop, Option}
use Rattle.std.specs.List.{position_from}
use Rattle.feature_lines.specs.declared.pool.Pool.{Pool}
use Rattle.lic_types.specs.Groups.{same_name}

-- what is seen of an office: its pools, their desks, and the number of rule sets
pub record View (D : Type 0) : Type 0 where
  pub pools : List Pool
  pub desks : List D
  pub sets : ℕ

-- there is one desk for each pool
pub record IsView {D : Type 0} (pools : List Pool) (desks : List D) : Type 0 where
  pub paired : length desks ≡ length pools

-- the first pool of a name
abbrev pub first_named : List Pool → List ℕ → Option ℕ
first_named pools name = position_from (λ (p : Pool). same_name p.name name) 0 pools

-- the first pool of a name at this place or behind it
abbrev pub named_from : List Pool → List ℕ → ℕ → Option ℕ
named_from pools name i = position_from (λ (p : Pool). same_name p.name name) i (drop i pools)
