-- The pools by buckets of their names.
use Rattle.std.specs.Prelude.{◌≡◌, ℕ, ◌+◌, ◌<◌, ◌≤◌, ◌%◌, ◌==◌, Bool, List, length, get_or, drop, Option, None}
use Rattle.std.specs.List.{position_from}
use Rattle.feature_lines.specs.declared.pool.Pool.{Pool}
use Rattle.group_roster.specs.Listings.{name_print}

-- the bucket of a name, among so many
abbrev pub bucket_of : ℕ → List ℕ → ℕ
bucket_of buckets name = name_print name % buckets

-- whether a pool is in a bucket
abbrev pub is_in : ℕ → ℕ → Pool → Bool
is_in buckets bucket p = bucket_of buckets p.name == bucket

-- the first pool of a bucket at this place or behind it
abbrev pub chained_from : ℕ → ℕ → List Pool → ℕ → Option ℕ
chained_from buckets bucket pools i = position_from (is_in buckets bucket) i (drop i pools)

-- each bucket leads to its first pool of those from this place on, and each of these pools to the next of its bucket
pub record AreChainedFrom (heads nexts : List (Option ℕ)) (pools : List Pool) (i : ℕ) : Type 0 where
  pub some : 0 < length heads
  pub paired : length nexts ≡ length pools
  pub first : (b : ℕ) → b < length heads → get_or heads b None ≡ chained_from (length heads) b pools i
  pub next : (j : ℕ) (p : Pool) → i ≤ j → j < length pools → get_or nexts j None ≡ chained_from (length heads) (bucket_of (length heads) (get_or pools j p).name) pools (j + 1)

-- the same of all pools
abbrev pub AreChained : List (Option ℕ) → List (Option ℕ) → List Pool → Type 0
AreChained heads nexts pools = AreChainedFrom heads nexts pools 0
