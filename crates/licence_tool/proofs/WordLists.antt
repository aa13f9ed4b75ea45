use Rattle.std.proofs.Common.{◌≡◌, ℕ, ◌≤◌, ◌<◌, ◌-◌, Bool, true, false, List, [], ◌∷◌, length, map, take, drop, get_or, None, Some, refl, ap, ◌∙◌, arith, le-leb}
use Rattle.std.specs.List.{list_all}
use Rattle.std.proofs.lemmas.Bool.{lt-leb}
use Rattle.std.proofs.lemmas.List.{take_all, length-map}
use Rattle.std.proofs.lemmas.List.Folds.{list_all-map}
use Rattle.licence_tool.specs.Command.{is_plain_word, run_of}

shorter : {X : Type 0} (f : X → List ℕ) (xs : List X) (n : ℕ) → length xs ≤ n → length (map f xs) ≤ n
shorter f xs n few = rw (length-map xs f) few

-- what is behind three elements
behind : {X : Type 0} (x y z : X) (xs : List X) → take (length (x ∷ y ∷ z ∷ xs) - 3) (drop 3 (x ∷ y ∷ z ∷ xs)) ≡ xs
behind x y z xs = take_all (length (x ∷ y ∷ z ∷ xs) - 3) xs (omega arith)

words_of_run : (a b c : List ℕ) (more : List (List ℕ)) → list_all is_plain_word (a ∷ b ∷ c ∷ more) ≡ true → length more ≤ 3
    → Some (record { licence = a; options = b; third = c; more = more }) ≡ run_of (a ∷ b ∷ c ∷ more)
words_of_run a b c more plain few = rw (plain, le-leb (length more) 3 few) refl

-- three words that may name files and three more at most are the files of a replay or an audit
pub is_run : {X : Type 0} (f : X → List ℕ) (xs : List X) (a b c : X) (la lb lc : List ℕ) → la ≡ f a → lb ≡ f b → lc ≡ f c → 3 ≤ length xs
    → a ≡ get_or xs 0 a → b ≡ get_or xs 1 b → c ≡ get_or xs 2 c → list_all (λ (x : X). is_plain_word (f x)) xs ≡ true → length (take (length xs - 3) (drop 3 xs)) ≤ 3
    → Some (record { licence = la; options = lb; third = lc; more = map f (take (length xs - 3) (drop 3 xs)) }) ≡ run_of (map f xs)
is_run f [] a b c la lb lc ea eb ec many p q r plain few = absurd (omega arith)
is_run f (x ∷ []) a b c la lb lc ea eb ec many p q r plain few = absurd (omega arith)
is_run f (x ∷ y ∷ []) a b c la lb lc ea eb ec many p q r plain few = absurd (omega arith)
is_run f (x ∷ y ∷ z ∷ xs) a b c la lb lc ea eb ec many p q r plain few =
    let first : la ≡ f x = ea ∙ ap f p in
    let second : lb ≡ f y = eb ∙ ap f q in
    let third : lc ≡ f z = ec ∙ ap f r in
    let all = behind x y z xs in
    let short : length xs ≤ 3 = rw all at few in
    rw (first, second, third, all) (words_of_run (f x) (f y) (f z) (map f xs) (list_all-map is_plain_word f (x ∷ y ∷ z ∷ xs) ∙ plain) (shorter f xs 3 short))

no_plain_words : (a b c : List ℕ) (more : List (List ℕ)) → list_all is_plain_word (a ∷ b ∷ c ∷ more) ≡ false → None ≡ run_of (a ∷ b ∷ c ∷ more)
no_plain_words a b c more plain = rw plain refl

-- words of which one may name no file are not
pub no_names : {X : Type 0} (f : X → List ℕ) (xs : List X) → list_all (λ (x : X). is_plain_word (f x)) xs ≡ false → None ≡ run_of (map f xs)
no_names f [] plain = refl
no_names f (x ∷ []) plain = refl
no_names f (x ∷ y ∷ []) plain = refl
no_names f (x ∷ y ∷ z ∷ xs) plain = no_plain_words (f x) (f y) (f z) (map f xs) (list_all-map is_plain_word f (x ∷ y ∷ z ∷ xs) ∙ plain)

too_many_words : (plain : Bool) (a b c : List ℕ) (more : List (List ℕ)) → list_all is_plain_word (a ∷ b ∷ c ∷ more) ≡ plain → 3 < length more → None ≡ run_of (a ∷ b ∷ c ∷ more)
too_many_words true a b c more is many = rw (is, lt-leb (length more) 3 many) refl
too_many_words false a b c more is many = rw is refl

-- and neither are seven words or more
pub too_many_names : {X : Type 0} (f : X → List ℕ) (xs : List X) → 3 < length (take (length xs - 3) (drop 3 xs)) → None ≡ run_of (map f xs)
too_many_names f [] many = refl
too_many_names f (x ∷ []) many = refl
too_many_names f (x ∷ y ∷ []) many = refl
too_many_names f (x ∷ y ∷ z ∷ xs) many =
    let long : 3 < length xs = rw (behind x y z xs) at many in
    too_many_words _ (f x) (f y) (f z) (map f xs) refl (rw (length-map xs f) long)
