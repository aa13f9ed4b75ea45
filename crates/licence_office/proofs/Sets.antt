-- The rule sets that options files give a pool.
use Rattle.std.proofs.Common.{◌≡◌, ℕ, zero, suc, ◌+◌, ◌<◌, ◌≤◌, List, [], ◌∷◌, ◌++◌, length, map, refl, sym, ap, ◌∙◌, arith, get_or, min, take}
use Rattle.std.proofs.lemmas.List.{length-map, map-append, take_more}
use Rattle.feature_lines.specs.declared.pool.Pool.{Pool}
use Rattle.options_machine.specs.Law.{AreSets}
use Rattle.options_machine.specs.Rules.{IsSound, Rules}
use Rattle.options_machine.specs.State.{in_force, opening, set_at}
use Rattle.options_text.specs.Options.{OptionsFile}
use Rattle.policy.specs.Pools.{rules_of}

-- one sound rule set more
pub sound_more : (sets : List Rules) (r : Rules) → ((n : ℕ) → n < length sets → IsSound (set_at sets n)) → IsSound r → (n : ℕ) → n < length (sets ++ r ∷ []) → IsSound (set_at (sets ++ r ∷ []) n)
sound_more [] r each one zero h = one
sound_more [] r each one (suc n) h = absurd (omega arith)
sound_more (x ∷ xs) r each one zero h = each zero (omega arith)
sound_more (x ∷ xs) r each one (suc n) h = sound_more xs r (λ m g. each (suc m) (omega arith)) one n (omega arith)

-- the rule sets of a pool are all of its count
pub same_count : (files : List OptionsFile) (pool : Pool) (n : ℕ) → n < length (map (rules_of pool) files) → (set_at (map (rules_of pool) files) n).count ≡ pool.count
same_count [] pool n h = absurd (omega arith)
same_count (file ∷ files) pool zero h = refl
same_count (file ∷ files) pool (suc n) h = same_count files pool n (omega arith)

-- the rule sets that options files give a pool are those of one book
pub are_sets_of : (sets : List Rules) (files : List OptionsFile) (pool : Pool) → sets ≡ map (rules_of pool) files → 0 < length files → length files ≤ 4
    → ((n : ℕ) → n < length sets → IsSound (set_at sets n)) → AreSets sets (in_force sets opening).count
are_sets_of sets files pool is some few sound =
    let many : length sets ≡ length files = ap length is ∙ length-map files (rules_of pool) in
    let each : (n : ℕ) → n < length sets → (set_at sets n).count ≡ pool.count =
    λ n h. ap (λ (rs : List Rules). (set_at rs n).count) is ∙ same_count files pool n (rw (← is) h) in
    record {
      some = rw many some;
      few = rw many few;
      sound = sound;
      same = λ n h. each n h ∙ sym (each 0 (rw many some));
    }

-- one more of a list was mapped
pub map_more : {X Y : Type 0} (f : X → Y) (xs : List X) (i : ℕ) (x : X) (done : List Y) (y : Y) → i < length xs → x ≡ get_or xs i x → y ≡ f x → done ≡ map f (take i xs) → done ++ y ∷ [] ≡ map f (take (i + 1) xs)
map_more f xs i x done y h is e before =
    ap (λ (ys : List _). ys ++ y ∷ []) before
    ∙ (ap (λ (z : _). map f (take i xs) ++ z ∷ []) (e ∙ ap f is)
    ∙ (sym (map-append f (take i xs) (get_or xs i x ∷ [])) ∙ ap (map f) (sym (take_more xs i x h))))

-- the rule sets that options files give a pool are of the pool's count
pub count_is : (sets : List Rules) (files : List OptionsFile) (pool : Pool) → sets ≡ map (rules_of pool) files → 0 < length files → (in_force sets opening).count ≡ pool.count
count_is sets files pool is some =
    ap (λ (rs : List Rules). (set_at rs 0).count) is ∙ same_count files pool 0 (let l = length-map files (rules_of pool) in omega (arith, l, some))

-- a net that is as wide as the pool's count allows is as wide as its rule sets allow
pub width_is : (sets : List Rules) (files : List OptionsFile) (pool : Pool) (width parties n : ℕ) → sets ≡ map (rules_of pool) files → 0 < length files → width ≡ min pool.count n → parties ≡ n → width ≡ min (in_force sets opening).count parties
width_is sets files pool width parties n is some wide many =
    let count = count_is sets files pool is some in
    wide ∙ (λ i. min (sym count i) (sym many i))
