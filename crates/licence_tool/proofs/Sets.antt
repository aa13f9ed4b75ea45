use Rattle.std.proofs.Common.{◌≡◌, ℕ, suc, ◌+◌, ◌<◌, ◌≤◌, List, [], ◌∷◌, ◌++◌, length, map, take, drop, get_or, Result, Ok, Err, refl, sym, ap, ◌∙◌, subst, arith, drop-cons, take-append-drop}
use Rattle.std.proofs.lemmas.List.{get_or-map, length-append, take_all, take_more, length-map}
use Rattle.options_text.specs.Options.{OptionsFile}
use Rattle.licence_tool.specs.Files.{Bytes}
use Rattle.licence_tool.specs.Outcome.{options_heard, sets_heard}
use Rattle.licence_tool.specs.Tool.{AreHeard, IsHeard}
use Rattle.licence_tool.proofs.Readings.{ReadSoFar, accepted, agreeing_all, are_agreeing, begins, finished, in_order, refused, said_as}
use Rattle.licence_tool.specs.declared.status.Status.{Status}
use Rattle.licence_tool.specs.declared.status.Status.TheVariants.{NoMemory}

-- what comes of the further options files behind these rule sets
abbrev sets_next : List OptionsFile → List Bytes → Result (List OptionsFile) Status
sets_next sets = in_order (Ok sets) (options_heard (length sets)) (λ options. sets_heard (sets ++ options ∷ []))

sets_go : (sets : List OptionsFile) (readings : List Bytes) → sets_heard sets readings ≡ sets_next sets readings
unfolding sets_heard
sets_go sets [] = refl
sets_go sets (reading ∷ readings) = refl

-- the first further options files were read, and gave these rule sets behind the first one
pub record HeardSoFar {X : Type 0} (name : X → List ℕ) (xs : List X) (contents now : List ℕ → Bytes) (old new : ℕ) (count : ℕ) (options : OptionsFile) (sets : List OptionsFile) : Type 0 where
  pub read : ReadSoFar (sets_heard (options ∷ [])) contents now old new (take count (map (λ x. contents (name x)) xs)) (sets_next sets)
  pub size : length sets ≡ count + 1

pub none_heard : {X : Type 0} (name : X → List ℕ) (xs : List X) (contents : List ℕ → Bytes) (old : ℕ) (options : OptionsFile) → HeardSoFar name xs contents contents old old 0 options (options ∷ [])
none_heard name xs contents old options = record { read = said_as [] refl (sets_go (options ∷ [])) (begins (sets_heard (options ∷ [])) contents old); size = refl }

-- the readings of all files, of which this one is at this place
pub told_at : {X Y : Type 0} (f : X → Y) (xs : List X) (i : ℕ) (x : X) → i < length xs → x ≡ get_or xs i x → get_or (map f xs) i (f x) ≡ f x
told_at f xs i x within is = get_or-map f xs i x (f x) within ∙ ap f (sym is)

pub within_map : {X Y : Type 0} (f : X → Y) (xs : List X) (i : ℕ) → i < length xs → i < length (map f xs)
within_map f xs i within = omega (arith, length-map xs f)

told_around : {X Y : Type 0} (f : X → Y) (xs : List X) (i : ℕ) (x : X) → i < length xs → x ≡ get_or xs i x → take i (map f xs) ++ (f x ∷ drop (suc i) (map f xs)) ≡ map f xs
told_around {Y = Y} f xs i x within is =
    let at : get_or (map f xs) i (f x) ∷ drop (suc i) (map f xs) ≡ f x ∷ drop (suc i) (map f xs) = ap (λ (b : Y). b ∷ drop (suc i) (map f xs)) (told_at f xs i x within is) in
    let from : drop i (map f xs) ≡ f x ∷ drop (suc i) (map f xs) = drop-cons (map f xs) i (f x) (within_map f xs i within) ∙ at in
    ap (λ (l : List Y). take i (map f xs) ++ l) (sym from) ∙ take-append-drop i (map f xs)

pub told_one_more : {X Y : Type 0} (f : X → Y) (xs : List X) (i : ℕ) (x : X) → i < length xs → x ≡ get_or xs i x → take i (map f xs) ++ f x ∷ [] ≡ take (i + 1) (map f xs)
told_one_more {Y = Y} f xs i x within is =
    sym (take_more (map f xs) i (f x) (within_map f xs i within) ∙ ap (λ (b : Y). take i (map f xs) ++ b ∷ []) (told_at f xs i x within is))

-- the options file of a rule set is that of its number
at_number : (sets : List OptionsFile) (Failed : Type 0) (told : Bytes) (result : Result OptionsFile Status) (number : ℕ) → number ≡ length sets → IsHeard (λ (o : OptionsFile). o) (options_heard number) Failed told result
    → IsHeard (λ (o : OptionsFile). o) (options_heard (length sets)) Failed told result
at_number sets Failed told result number is h = subst (λ (n : ℕ). IsHeard (λ (o : OptionsFile). o) (options_heard n) Failed told result) is h

module _ {X : Type 0} {name : X → List ℕ} {xs : List X} {contents now : List ℕ → Bytes} {old new i : ℕ} {options : OptionsFile} {sets : List OptionsFile} where
  -- one more was read and accepted
  pub one_more : {later : List ℕ → Bytes} {last number : ℕ} (x : X) (further : OptionsFile) → HeardSoFar name xs contents now old new i options sets → i < length xs → x ≡ get_or xs i x → number ≡ length sets
      → ((other : List ℕ) → later other ≡ now other) → new ≤ last → IsHeard (λ (o : OptionsFile). o) (options_heard number) (new < last) (now (name x)) (Ok further) → HeardSoFar name xs contents later old last (i + 1) options (sets ++ further ∷ [])
  one_more {last = last} {number = number} x further h within is place same grows heard = record {
    read = said_as (take (i + 1) (map (λ x. contents (name x)) xs)) (told_one_more (λ x. contents (name x)) xs i x within is) (sets_go (sets ++ further ∷ []))
        (accepted (Ok sets) (λ o. sets_heard (sets ++ o ∷ [])) h.read same grows (at_number sets (new < last) (now (name x)) (Ok further) number place heard));
    size = omega (arith, length-append sets (further ∷ []), h.size);
  }

  -- one was refused
  pub one_refused : {Z : Type 0} {view : Z → List OptionsFile} {last number : ℕ} {status : Status} (x : X) → HeardSoFar name xs contents now old new i options sets → i < length xs → x ≡ get_or xs i x → number ≡ length sets
      → new ≤ last → IsHeard (λ (o : OptionsFile). o) (options_heard number) (new < last) (now (name x)) (Err status) → AreHeard view (sets_heard (options ∷ [])) (old < last) (map (λ x. contents (name x)) xs) (Err status)
  one_refused {view = view} {last = last} {number = number} {status = status} x h within is place grows heard =
      subst (λ (t : List Bytes). AreHeard view (sets_heard (options ∷ [])) (old < last) t (Err status)) (told_around (λ x. contents (name x)) xs i x within is)
      (refused (Ok sets) (λ o. sets_heard (sets ++ o ∷ [])) (drop (suc i) (map (λ x. contents (name x)) xs)) h.read grows (at_number sets (new < last) (now (name x)) (Err status) number place heard))

-- all were read and accepted
pub all_heard : {X V : Type 0} {name : X → List ℕ} {xs : List X} {contents now : List ℕ → Bytes} {old new count : ℕ} {options : OptionsFile} (view : V → List OptionsFile) (sets : V)
    → HeardSoFar name xs contents now old new count options (view sets) → length xs ≤ count → AreHeard view (sets_heard (options ∷ [])) (old < new) (map (λ x. contents (name x)) xs) (Ok sets)
all_heard {name = name} {xs = xs} {contents = contents} {count = count} view sets h whole =
    let told = map (λ x. contents (name x)) xs in
    finished sets (said_as told (take_all count told (omega (arith, length-map xs (λ x. contents (name x))))) (λ rest. refl) h.read) refl

-- there was too little memory
pub sets_without_memory : {V : Type 0} (view : V → List OptionsFile) (Failed : Type 0) (told : List Bytes) (options : OptionsFile) → AreHeard view (sets_heard (options ∷ [])) Failed told (Err NoMemory)
sets_without_memory view Failed told options = record { readings = agreeing_all told; are = are_agreeing Failed told; says = tt }
