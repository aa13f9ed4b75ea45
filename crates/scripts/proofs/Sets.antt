use Rattle.std.proofs.Common.{◌≡◌, ℕ, zero, suc, ◌+◌, ◌<◌, ◌≤◌, ◌^◌, List, [], ◌∷◌, ◌++◌, length, map, refl, sym, ap, ◌∙◌, arith, get_or, take, subst}
use Rattle.std.proofs.lemmas.List.{length-map, map-append, take_all, take_more}
use Rattle.feature_lines.specs.declared.pool.Pool.{Pool}
use Rattle.lic_types.specs.declared.client.RuleLine.{RuleLine}
use Rattle.options_machine.proofs.Cuts.{rules_sound}
use Rattle.options_machine.specs.Law.{AreSets}
use Rattle.options_machine.specs.Rules.{IsSound, Rules}
use Rattle.options_machine.specs.State.{in_force, opening, set_at}
use Rattle.options_text.proofs.Rising.{once}
use Rattle.options_text.specs.Options.{OptionsFile}
use Rattle.policy.proofs.Readings.{options_read}
use Rattle.policy.specs.Pools.{rules_of}
use Rattle.scripts.specs.Laws.{AreOrderly, IsOrderly}

-- one sound rule set more
pub sound_more : (sets : List Rules) (r : Rules) → ((n : ℕ) → n < length sets → IsSound (set_at sets n)) → IsSound r → (n : ℕ) → n < length (sets ++ r ∷ []) → IsSound (set_at (sets ++ r ∷ []) n)
sound_more [] r each one zero h = one
sound_more [] r each one (suc n) h = absurd (omega arith)
sound_more (x ∷ xs) r each one zero h = each zero (omega arith)
sound_more (x ∷ xs) r each one (suc n) h = sound_more xs r (λ m g. each (suc m) (omega arith)) one n (omega arith)

-- the rule sets of a pool are all of its count
pub same_count : (files : List OptionsFile) (pool : Pool) (n : ℕ) → n < length (map (rules_of pool) files) → (set_at (map (rules_of pool) files) n).count ≡ pool.count
same_count [] pool n h = absurd (omega arith)
same_count (file ∷ files) pool zero h = refl
same_count (file ∷ files) pool (suc n) h = same_count files pool n (omega arith)

-- the rule sets that options files give a pool are those of one book
pub are_sets_of : (sets : List Rules) (files : List OptionsFile) (pool : Pool) → sets ≡ map (rules_of pool) files → 0 < length files → length files ≤ 4
    → ((n : ℕ) → n < length sets → IsSound (set_at sets n)) → AreSets sets (in_force sets opening).count
are_sets_of sets files pool is some few sound =
    let many : length sets ≡ length files = ap length is ∙ length-map files (rules_of pool) in
    let each : (n : ℕ) → n < length sets → (set_at sets n).count ≡ pool.count =
    λ n h. ap (λ (rs : List Rules). (set_at rs n).count) is ∙ same_count files pool n (rw (← is) h) in
    record {
      some = rw many some;
      few = rw many few;
      sound = sound;
      same = λ n h. each n h ∙ sym (each 0 (rw many some));
    }

-- one more of a list was mapped
pub map_more : {X Y : Type 0} (f : X → Y) (xs : List X) (i : ℕ) (x : X) (done : List Y) (y : Y) → i < length xs → x ≡ get_or xs i x → y ≡ f x → done ≡ map f (take i xs) → done ++ y ∷ [] ≡ map f (take (i + 1) xs)
map_more f xs i x done y h is e before =
    ap (λ (ys : List _). ys ++ y ∷ []) before
    ∙ (ap (λ (z : _). map f (take i xs) ++ z ∷ []) (e ∙ ap f is)
    ∙ (sym (map-append f (take i xs) (get_or xs i x ∷ [])) ∙ ap (map f) (sym (take_more xs i x h))))

-- the rules that an orderly options file gives a pool are sound
rules_of_file : (file : OptionsFile) (pool : Pool) → IsOrderly file → pool.count < 2 ^ 32 → IsSound (rules_of pool file)
rules_of_file file pool orderly few =
    rules_sound file.lines file.groups pool.name pool.count (options_read file.lines (λ n. once (λ (l : RuleLine). l.line) n file.lines orderly.lines_rise) orderly.within) few

each_sound : (files : List OptionsFile) (pool : Pool) → AreOrderly files → pool.count < 2 ^ 32 → (n : ℕ) → n < length (map (rules_of pool) files) → IsSound (set_at (map (rules_of pool) files) n)
each_sound [] pool orderly small n h = absurd (omega arith)
each_sound (file ∷ files) pool orderly small zero h = rules_of_file file pool orderly.0 small
each_sound (file ∷ files) pool orderly small (suc n) h = each_sound files pool orderly.1 small n (omega arith)

-- the rule sets that orderly options files give a pool
pub sets_of_files : (files : List OptionsFile) (pool : Pool) → 0 < length files → length files ≤ 4 → AreOrderly files → pool.count < 2 ^ 32 → AreSets (map (rules_of pool) files) pool.count
sets_of_files files pool some few orderly small =
    let many : length (map (rules_of pool) files) ≡ length files = length-map files (rules_of pool) in
    record {
      some = rw many some;
      few = rw many few;
      sound = each_sound files pool orderly small;
      same = same_count files pool;
    }

-- one more options file is orderly
pub orderly_more : (files : List OptionsFile) (i : ℕ) (file : OptionsFile) → i < length files → file ≡ get_or files i file → IsOrderly file → AreOrderly (take i files) → AreOrderly (take (i + 1) files)
orderly_more files i file within is this before =
    rw (take_more files i file within) (orderly_behind (take i files) (get_or files i file) before (subst IsOrderly is this))
  where
    orderly_behind : (files : List OptionsFile) (file : OptionsFile) → AreOrderly files → IsOrderly file → AreOrderly (files ++ file ∷ [])
    orderly_behind [] file before this = (this, tt)
    orderly_behind (first ∷ files) file before this = (before.0, orderly_behind files file before.1 this)

-- all of them are
pub all_orderly : (files : List OptionsFile) (i : ℕ) → length files ≤ i → AreOrderly (take i files) → AreOrderly files
all_orderly files i whole orderly = subst AreOrderly (take_all i files whole) orderly
