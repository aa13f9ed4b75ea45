use Rattle.std.proofs.Common.{◌≡◌, ℕ, zero, suc, ◌+◌, ◌<◌, ◌≤◌, Bool, true, false, ltb, cond, List, [], ◌∷◌, ◌++◌, length, None, Some, Ok, Err, slice_index_or, slice_set, refl, sym, ap, ◌∙◌, le-ltb, arith}
use Rattle.std.proofs.lemmas.Bool.Decides.{nat_tests}
use Rattle.std.specs.List.{find, position_from}
use Rattle.feature_lines.specs.Licence.{PoolKey, line_key, pool_key, pool_with, same_key}
use Rattle.feature_lines.specs.Steps.{pools_with_line, pools_with_more, with_more}
use Rattle.feature_lines.specs.declared.fault.LicenceFault.TheVariants.{BadCount, TooManyPools}
use Rattle.feature_lines.specs.declared.line.FeatureLine.{FeatureLine}
use Rattle.feature_lines.specs.declared.pool.Pool.{Pool}

-- The pool of a line, by its place.

not_before : {X : Type 0} (t : X → Bool) (xs : List X) (i p : ℕ) → position_from t i xs ≡ Some p → i ≤ p
not_before t [] i p h = absurd cc
not_before t (x ∷ xs) i p h = elim (t x) as (λ (b : Bool). cond b (Some i) (position_from t (i + 1) xs) ≡ Some p → i ≤ p) [ true ↦ λ e. (let same : i ≡ p = cc in omega arith) | false ↦ λ e. (let later = not_before t xs (i + 1) p e in omega arith) ] h

-- no place, no element
pub none_found : {X : Type 0} (t : X → Bool) (xs : List X) (i : ℕ) → position_from t i xs ≡ None → find t xs ≡ None
none_found t [] i h = refl
none_found t (x ∷ xs) i h = elim (t x) as (λ (b : Bool). cond b (Some i) (position_from t (i + 1) xs) ≡ None → cond b (Some x) (find t xs) ≡ None) [ true ↦ λ e. absurd cc | false ↦ λ e. none_found t xs (i + 1) e ] h

-- what is known of the pools where the first of a key is at a place
abbrev AtPlace : PoolKey → ℕ → List Pool → ℕ → Pool → Type 0
AtPlace key count ps k d = (find (λ p. same_key key (pool_key p)) ps ≡ Some (slice_index_or ps k d)) × (pools_with_more key count ps ≡ slice_set ps k (with_more count (slice_index_or ps k d)))

place_step : (key : PoolKey) (count : ℕ) (p : Pool) (ps : List Pool) (i at k : ℕ) (d : Pool) (t : Bool) → same_key key (pool_key p) ≡ t
    → cond t (Some i) (position_from (λ p. same_key key (pool_key p)) (i + 1) ps) ≡ Some at → at ≡ i + k
    → ((r : ℕ) → position_from (λ p. same_key key (pool_key p)) (i + 1) ps ≡ Some at → at ≡ (i + 1) + r → AtPlace key count ps r d)
    → AtPlace key count (p ∷ ps) k d
place_step key count p ps i at zero d true is h e rest = (rw is refl, rw is refl)
place_step key count p ps i at (suc r) d true is h e rest = let same : i ≡ at = cc in absurd (omega arith)
place_step key count p ps i at zero d false is h e rest = let later = not_before (λ p. same_key key (pool_key p)) ps (i + 1) at h in absurd (omega arith)
place_step key count p ps i at (suc r) d false is h e rest =
    let known = rest r h (omega arith) in
    (rw is known.0, rw is (ap (λ (qs : List Pool). p ∷ qs) known.1))

at_place : (key : PoolKey) (count : ℕ) (ps : List Pool) (i at k : ℕ) (d : Pool) → position_from (λ p. same_key key (pool_key p)) i ps ≡ Some at → at ≡ i + k → AtPlace key count ps k d
at_place key count [] i at k d h e = absurd cc
at_place key count (p ∷ ps) i at k d h e = place_step key count p ps i at k d (same_key key (pool_key p)) refl h e (λ r. at_place key count ps (i + 1) at r d)

-- where no pool is of the line, and there are enough
pub no_room : (f : FeatureLine) (pools : List Pool) → position_from (λ p. same_key (line_key f) (pool_key p)) 0 pools ≡ None → 64 ≤ length pools → pools_with_line f pools ≡ Err (TooManyPools f.line)
no_room f pools none many =
    let full : ltb (length pools) 64 ≡ false = le-ltb (length pools) 64 many in
    rw (none_found (λ p. same_key (line_key f) (pool_key p)) pools 0 none, full) refl

-- where no pool is of the line, and there are not so many
pub new_pool : (f : FeatureLine) (pools : List Pool) → position_from (λ p. same_key (line_key f) (pool_key p)) 0 pools ≡ None → length pools < 64 → pools_with_line f pools ≡ Ok (pools ++ pool_with f.count f ∷ [])
new_pool f pools none few =
    let room : ltb (length pools) 64 ≡ true = grind (arith, nat_tests) in
    rw (none_found (λ p. same_key (line_key f) (pool_key p)) pools 0 none, room) refl

-- where a pool is of the line, and the sum is too large
pub too_many : (f : FeatureLine) (pools : List Pool) (at : ℕ) (d : Pool) → position_from (λ p. same_key (line_key f) (pool_key p)) 0 pools ≡ Some at → d ≡ slice_index_or pools at d → 65535 < d.count + f.count → pools_with_line f pools ≡ Err (BadCount f.line)
too_many f pools at d place is many =
    let known = at_place (line_key f) f.count pools 0 at at d place (omega arith) in
    let found : find (λ p. same_key (line_key f) (pool_key p)) pools ≡ Some d = known.0 ∙ ap Some (sym is) in
    let over : ltb 65535 (d.count + f.count) ≡ true = grind (arith, nat_tests) in
    rw (found, over) refl

-- where a pool is of the line, and the sum is not too large
pub more_of : (f : FeatureLine) (pools : List Pool) (at : ℕ) (d : Pool) → position_from (λ p. same_key (line_key f) (pool_key p)) 0 pools ≡ Some at → d ≡ slice_index_or pools at d → d.count + f.count ≤ 65535 → pools_with_line f pools ≡ Ok (slice_set pools at (with_more f.count d))
more_of f pools at d place is few =
    let known = at_place (line_key f) f.count pools 0 at at d place (omega arith) in
    let found : find (λ p. same_key (line_key f) (pool_key p)) pools ≡ Some d = known.0 ∙ ap Some (sym is) in
    let under : ltb 65535 (d.count + f.count) ≡ false = le-ltb 65535 (d.count + f.count) few in
    rw (found, under) (ap Ok (known.1 ∙ ap (λ (p : Pool). slice_set pools at (with_more f.count p)) (sym is)))
