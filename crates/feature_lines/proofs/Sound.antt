use Rattle.std.proofs.Common.{◌≡◌, ℕ, ◌+◌, ◌<◌, ◌≤◌, Bool, true, false, ◌||◌, not, ltb, eqb, cond, List, [], ◌∷◌, ◌++◌, length, Option, None, Some, Result, Ok, Err, refl, ap, ◌∙◌, length-append, subst, arith}
use Rattle.std.proofs.lemmas.Bool.Decides.{nat_tests}
use Rattle.std.proofs.lemmas.Bool.{ltb-true, ltb-false, or_parts, and_parts, not-true}
use Rattle.std.specs.List.{find, list_all}
use Rattle.std.proofs.lemmas.List.Folds.{list_any-append}
use Rattle.feature_lines.specs.Licence.{ArePools, Judged, PoolKey, are_apart, has_licences, has_pool, line_key, pool_key, pool_with, same_key}
use Rattle.feature_lines.specs.Steps.{Sofar, pools_with_line, added_to, counted_or_locked, sofar_after_lines, pools_with_more, sofar_after_line, with_more, with_pools}
use Rattle.feature_lines.specs.declared.fault.LicenceFault.{LicenceFault}
use Rattle.feature_lines.specs.declared.line.FeatureLine.{FeatureLine}
use Rattle.feature_lines.specs.declared.line.Said.TheVariants.{Nothing, NotServed as Unserved, Feature}
use Rattle.feature_lines.specs.declared.pool.Pool.{Pool}
use Rattle.feature_lines.proofs.Keys.{other_key}
use Rattle.feature_lines.proofs.Passes.{AreSmall, IsSmall}

-- The pools of a pass are few and apart, and have licences.

abbrev IsSound : Result Sofar LicenceFault → Type 0
IsSound (Ok s) = ArePools s.pools
IsSound (Err fault) = Unit {0}

abbrev AreSound : Result (List Pool) LicenceFault → Type 0
AreSound (Ok pools) = ArePools pools
AreSound (Err fault) = Unit {0}

has_count : (p : Pool) → 0 < p.count → p.count ≤ 65535 → has_licences p ≡ true
has_count p some few = grind (arith, nat_tests)

all_push : (pools : List Pool) (p : Pool) → list_all has_licences pools ≡ true → has_licences p ≡ true → list_all has_licences (pools ++ p ∷ []) ≡ true
all_push [] p all has = rw has refl
all_push (q ∷ qs) p all has = let two = and_parts (has_licences q) (list_all has_licences qs) all in rw two.0 (all_push qs p two.1 has)

none_has : (key : PoolKey) (pools : List Pool) → find (λ p. same_key key (pool_key p)) pools ≡ None → has_pool key pools ≡ false
none_has key [] none = refl
none_has key (p ∷ ps) none = elim (same_key key (pool_key p)) as (λ (t : Bool). cond t (Some p) (find (λ p. same_key key (pool_key p)) ps) ≡ None → (t || has_pool key ps) ≡ false) [ true ↦ λ e. absurd cc | false ↦ λ e. none_has key ps e ] none

-- a new pool at the end
apart_push : (pools : List Pool) (p : Pool) → are_apart pools ≡ true → has_pool (pool_key p) pools ≡ false → are_apart (pools ++ p ∷ []) ≡ true
apart_push [] p apart none = refl
apart_push (q ∷ qs) p apart none =
    let two = and_parts (not (has_pool (pool_key q) qs)) (are_apart qs) apart in
    let parts = or_parts (same_key (pool_key p) (pool_key q)) (has_pool (pool_key p) qs) none in
    let far : same_key (pool_key q) (pool_key p) ≡ false = other_key (pool_key p) (pool_key q) parts.0 in
    let alone : has_pool (pool_key q) qs ≡ false = not-true _ two.0 in
    let still : has_pool (pool_key q) (qs ++ p ∷ []) ≡ false = list_any-append (λ r. same_key (pool_key q) (pool_key r)) qs (p ∷ []) ∙ rw (alone, far) refl in
    rw still (apart_push qs p two.1 parts.1)

-- raising a pool keeps what makes it one
has_raised : (key other : PoolKey) (count : ℕ) (pools : List Pool) → has_pool other (pools_with_more key count pools) ≡ has_pool other pools
has_raised key other count [] = refl
has_raised key other count (p ∷ ps) = elim (same_key key (pool_key p)) as (λ (t : Bool). has_pool other (cond t (with_more count p ∷ ps) (p ∷ pools_with_more key count ps)) ≡ (same_key other (pool_key p) || has_pool other ps)) [ true ↦ refl | false ↦ ap (λ (b : Bool). same_key other (pool_key p) || b) (has_raised key other count ps) ]

apart_raised : (key : PoolKey) (count : ℕ) (pools : List Pool) → are_apart pools ≡ true → are_apart (pools_with_more key count pools) ≡ true
apart_raised key count [] apart = refl
apart_raised key count (p ∷ ps) apart =
    let two = and_parts (not (has_pool (pool_key p) ps)) (are_apart ps) apart in
    let rest = apart_raised key count ps two.1 in
    elim (same_key key (pool_key p)) as (λ (t : Bool). are_apart (cond t (with_more count p ∷ ps) (p ∷ pools_with_more key count ps)) ≡ true) [ true ↦ apart | false ↦ rw (has_raised key (pool_key p) count ps, two.0) rest ]

length_raised : (key : PoolKey) (count : ℕ) (pools : List Pool) → length (pools_with_more key count pools) ≡ length pools
length_raised key count [] = refl
length_raised key count (p ∷ ps) = elim (same_key key (pool_key p)) as (λ (t : Bool). length (cond t (with_more count p ∷ ps) (p ∷ pools_with_more key count ps)) ≡ length (p ∷ ps)) [ true ↦ refl | false ↦ (let rest = length_raised key count ps in omega arith) ]

all_raised : (key : PoolKey) (count : ℕ) (pools : List Pool) (d : Pool) → find (λ p. same_key key (pool_key p)) pools ≡ Some d → d.count + count ≤ 65535 → list_all has_licences pools ≡ true → list_all has_licences (pools_with_more key count pools) ≡ true
all_raised key count [] d is few all = refl
all_raised key count (p ∷ ps) d is few all =
    let two = and_parts (has_licences p) (list_all has_licences ps) all in
    elim (same_key key (pool_key p)) as (λ (t : Bool). cond t (Some p) (find (λ p. same_key key (pool_key p)) ps) ≡ Some d → list_all has_licences (cond t (with_more count p ∷ ps) (p ∷ pools_with_more key count ps)) ≡ true) [
      | true ↦ λ e. (let same : p ≡ d = cc in
          let counts : p.count ≡ d.count = ap (λ (q : Pool). q.count) same in
          let some : 0 < p.count = ltb-true 0 p.count (and_parts (ltb 0 p.count) _ two.0).0 in
          let has : has_licences (with_more count p) ≡ true = has_count (with_more count p) (omega arith) (omega arith) in
          rw has two.1)
      | false ↦ λ e. rw two.0 (all_raised key count ps d e few two.1)
    ] is

push_sound : (f : FeatureLine) (pools : List Pool) (b : Bool) → ltb (length pools) 64 ≡ b → find (λ p. same_key (line_key f) (pool_key p)) pools ≡ None → 0 < f.count → f.count ≤ 65535 → ArePools pools
    → (fault : LicenceFault) → AreSound (cond b (Ok (pools ++ pool_with f.count f ∷ [])) (Err fault))
push_sound f pools true is none some few sound fault =
    let room : length pools < 64 = ltb-true (length pools) 64 is in
    record {
      few = omega (arith, length-append pools (pool_with f.count f ∷ []));
      counts = all_push pools (pool_with f.count f) sound.counts (has_count (pool_with f.count f) some few);
      apart = apart_push pools (pool_with f.count f) sound.apart (none_has (line_key f) pools none);
    }
push_sound f pools false is none some few sound fault = tt

raise_sound : (f : FeatureLine) (pools : List Pool) (d : Pool) (b : Bool) → ltb 65535 (d.count + f.count) ≡ b → find (λ p. same_key (line_key f) (pool_key p)) pools ≡ Some d → ArePools pools
    → (fault : LicenceFault) → AreSound (cond b (Err fault) (Ok (pools_with_more (line_key f) f.count pools)))
raise_sound f pools d true is one sound fault = tt
raise_sound f pools d false is one sound fault =
    record {
      few = (let same = length_raised (line_key f) f.count pools in let old = sound.few in omega arith);
      counts = all_raised (line_key f) f.count pools d one (ltb-false 65535 (d.count + f.count) is) sound.counts;
      apart = apart_raised (line_key f) f.count pools sound.apart;
    }

add_sound : (f : FeatureLine) (pools : List Pool) (o : Option Pool) → find (λ p. same_key (line_key f) (pool_key p)) pools ≡ o → 0 < f.count → f.count ≤ 65535 → ArePools pools → AreSound (added_to f pools o)
add_sound f pools None is some few sound = push_sound f pools _ refl is some few sound _
add_sound f pools (Some d) is some few sound = raise_sound f pools d _ refl is sound _

pools_sound : (s : Sofar) (r : Result (List Pool) LicenceFault) → AreSound r → IsSound (with_pools s r)
pools_sound s (Ok pools) sound = sound
pools_sound s (Err fault) sound = tt

count_sound : (s t : Sofar) (f : FeatureLine) (b : Bool) → eqb f.count 0 ≡ b → f.count ≤ 65535 → ArePools s.pools → ArePools t.pools → IsSound (cond b (Ok t) (with_pools s (pools_with_line f s.pools)))
count_sound s t f true is few sound other = other
count_sound s t f false is few sound other = let some : 0 < f.count = grind (arith, nat_tests) in pools_sound s (pools_with_line f s.pools) (add_sound f s.pools _ refl some few sound)

feature_sound : (s t u : Sofar) (f : FeatureLine) (a b : Bool) → f.count ≤ 65535 → ArePools s.pools → ArePools t.pools → ArePools u.pools → IsSound (cond a (cond b (Ok t) (counted_or_locked u f)) (counted_or_locked s f))
feature_sound s t u f true true few p q r = q
feature_sound s t u f true false few p q r = count_sound u _ f _ refl few r r
feature_sound s t u f false b few p q r = count_sound s _ f _ refl few p p

step_sound : (s : Sofar) (line : Judged) → IsSmall line → ArePools s.pools → IsSound (sofar_after_line s line)
step_sound s (Ok (Feature f)) few sound = feature_sound s _ _ f f.is_feature _ few sound sound sound
step_sound s (Ok Nothing) few sound = sound
step_sound s (Ok (Unserved line)) few sound = sound
step_sound s (Err fault) few sound = tt

-- what holds of the pools holds to the end
pub pass_sound : (lines : List Judged) (r : Result Sofar LicenceFault) → AreSmall lines → IsSound r → IsSound (sofar_after_lines r lines)
pass_sound [] (Ok s) small sound = sound
pass_sound [] (Err fault) small sound = tt
pass_sound (line ∷ lines) (Ok s) small sound = pass_sound lines (sofar_after_line s line) small.1 (step_sound s line small.0 sound)
pass_sound (line ∷ lines) (Err fault) small sound = pass_sound lines (Err fault) small.1 tt

-- the pools of no line
pub no_pools : ArePools []
no_pools = record { few = omega arith; counts = refl; apart = refl }

pub sound_at : (s : Sofar) (r : Result Sofar LicenceFault) → r ≡ Ok s → IsSound r → ArePools s.pools
sound_at s (Ok t) is sound = let same : t ≡ s = cc in subst (λ (u : Sofar). ArePools u.pools) same sound
sound_at s (Err fault) is sound = absurd cc
