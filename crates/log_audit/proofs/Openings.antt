-- The desks before the first entry.
use Rattle.std.proofs.Common.{◌≡◌, ℕ, zero, suc, ◌<◌, ◌≤◌, true, nat_le, nat_lt, List, [], ◌∷◌, get_or, length, map, refl, sym, ap, ◌∙◌, arith, subst}
use Rattle.std.proofs.lemmas.Bool.{and_parts, leb-true}
use Rattle.std.proofs.lemmas.List.{length-map}
use Rattle.std.specs.List.{AllByRecursion, list_all}
use Rattle.feature_lines.specs.Licence.{has_licences}
use Rattle.feature_lines.specs.declared.pool.Pool.{Pool}
use Rattle.options_machine.specs.Rules.{Rules}
use Rattle.options_machine.specs.State.{set_at}
use Rattle.options_text.specs.Options.{OptionsFile}
use Rattle.policy.specs.Pools.{rules_of}
use Rattle.log_audit.specs.Audited.{sets_of}
use Rattle.log_audit.specs.Kept.{HasLawfulSets, StandAll, StandsAt, desk_of, sets_at}
use Rattle.log_audit.specs.declared.desk.Desk.{Desk}
use Rattle.log_audit.proofs.Sets.{same_count}

-- the licences of a pool, in its rule sets
count_of : (files : List OptionsFile) (pool : Pool) → 0 < length files → has_licences pool ≡ true → (set_at (map (rules_of pool) files) 0).count ≤ 65535
count_of files pool some licences =
    let few = leb-true pool.count 65535 (and_parts (nat_lt 0 pool.count) (nat_le pool.count 65535) licences).1 in
    let same = same_count files pool 0 (rw (length-map files (rules_of pool)) some) in
    omega arith

opened_at : (files : List OptionsFile) (pools : List Pool) (i pool : ℕ) (d : Desk) → 0 < length files → list_all has_licences pools ≡ true → AllByRecursion HasLawfulSets (map (desk_of files) pools)
    → i < length (map (desk_of files) pools) → StandsAt (get_or (map sets_at (map (desk_of files) pools)) i []) pool [] (get_or (map (desk_of files) pools) i d)
opened_at files [] i pool d some licences lawful h = absurd (omega arith)
opened_at files (first ∷ pools) zero pool d some licences lawful h = record {
  rules = refl;
  parties = refl;
  reached = refl;
  counted = refl;
  run = record { run = tt; places = tt };
  summed = (refl, refl);
  lawful = lawful.0;
  few = count_of files first some (and_parts (has_licences first) (list_all has_licences pools) licences).0;
}
opened_at files (first ∷ pools) (suc i) pool d some licences lawful h = opened_at files pools i pool d some (and_parts (has_licences first) (list_all has_licences pools) licences).1 lawful.1 (omega arith)

opened_all : (files : List OptionsFile) (pools : List Pool) → 0 < length files → list_all has_licences pools ≡ true → AllByRecursion HasLawfulSets (map (desk_of files) pools)
    → StandAll (map sets_at (map (desk_of files) pools)) [] (map (desk_of files) pools)
opened_all files pools some licences lawful = record {
  many = sym (length-map (map (desk_of files) pools) sets_at);
  each = λ pool d low. opened_at files pools pool pool d some licences lawful low;
}

-- the desks that were made stand before the first entry
pub stand_first : (files : List OptionsFile) (pools : List Pool) (desks : List Desk) → 0 < length files → list_all has_licences pools ≡ true → desks ≡ map (desk_of files) pools → AllByRecursion HasLawfulSets desks
    → StandAll (map sets_at desks) [] desks
stand_first files pools desks some licences is lawful =
    subst (λ (ds : List Desk). StandAll (map sets_at ds) [] ds) (sym is) (opened_all files pools some licences (subst (AllByRecursion HasLawfulSets) is lawful))

sets_same : (files : List OptionsFile) (pools : List Pool) → map sets_at (map (desk_of files) pools) ≡ map (sets_of files) pools
sets_same files [] = refl
sets_same files (pool ∷ pools) = ap (λ (rest : List (List Rules)). sets_of files pool ∷ rest) (sets_same files pools)

-- and they have the rule sets that the options files give the pools
pub sets_are : (files : List OptionsFile) (pools : List Pool) (desks : List Desk) → desks ≡ map (desk_of files) pools → map sets_at desks ≡ map (sets_of files) pools
sets_are files pools desks is = ap (map sets_at) is ∙ sets_same files pools
