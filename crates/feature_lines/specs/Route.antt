use Rattle.std.specs.Prelude.{ℕ, ◌<◌, Bool, true, ◌&&◌, nat_le, pos, ◌+ℤ◌, ◌*ℤ◌, int_lt, List, find, Option, None, Some, option_map}
use Rattle.std.specs.List.{position_from}
use Rattle.lic_types.specs.Groups.{same_name}
use Rattle.lic_types.specs.declared.day.Expiry.{Expiry}
use Rattle.lic_types.specs.declared.day.Expiry.TheVariants.{Never, On}
use Rattle.feature_lines.specs.declared.pool.Pool.{Pool}
use Rattle.feature_lines.specs.declared.route.Found.{Found}
use Rattle.feature_lines.specs.declared.route.Found.TheVariants.{Pool as At, Unknown, Expired}

-- whether an expiry has not passed at a moment, in seconds since 1970-01-01 UTC: a pool is good to the end of its day
abbrev pub is_good : ℕ → Expiry → Bool
is_good moment Never = true
is_good moment (On day) = int_lt (pos moment) ((day.number +ℤ pos 1) *ℤ pos 86400)

-- whether a pool is of the name, and its version is at least the one of this key
abbrev pub is_new_enough : List ℕ → ℕ → Pool → Bool
is_new_enough name version p = same_name p.name name && nat_le version p.version.key

-- whether a pool serves a checkout
abbrev pub serves : List ℕ → ℕ → ℕ → Pool → Bool
serves name version moment p = is_new_enough name version p && is_good moment p.expiry

-- where no pool serves: the day of the first that is new enough, if there is one
abbrev pub not_served : Option Expiry → Found
not_served None = Unknown
not_served (Some Never) = Unknown
not_served (Some (On day)) = Expired day

abbrev pub found_at : Option ℕ → Option Expiry → Found
found_at (Some at) expiry = At at
found_at None expiry = not_served expiry

-- the first pool in the order of the file that serves; else the day of the first that is new enough and has expired
abbrev pub route : List Pool → List ℕ → ℕ → ℕ → Found
route pools name version moment =
    found_at (position_from (serves name version moment) 0 pools) (option_map (λ (p : Pool). p.expiry) (find (is_new_enough name version) pools))

-- where a pool is found among so many, its place is one of theirs
abbrev pub IsThere : ℕ → Found → Type 0
IsThere n (At i) = i < n
IsThere n Unknown = Unit {0}
IsThere n (Expired day) = Unit {0}
