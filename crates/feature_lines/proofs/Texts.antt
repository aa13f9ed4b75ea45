use Rattle.std.proofs.Common.{◌≡◌, ℕ, zero, suc, ◌+◌, ◌<◌, ◌≤◌, Bool, true, false, not, ltb, eqb, cond, List, [], ◌∷◌, ◌++◌, length, take, drop, Option, None, Some, Ok, Err, refl, subst, arith}
use Rattle.std.proofs.lemmas.Bool.{eqb-true, ltb-true, ltb-false, and_parts}
use Rattle.lic_types.specs.declared.name.NameFault.TheVariants.{Empty, TooLong}
use Rattle.std.proofs.lemmas.Bool.Decides.{nat_tests}
use Rattle.std.specs.List.{position_from}
use Rattle.std.specs.Str.{all_ascii_digits}
use Rattle.std.specs.Char.{is_ascii_digit}
use Rattle.lic_types.specs.Name.{is_name_byte, name_of, unless_bad}
use Rattle.lic_types.specs.Version.{decimal, key_of, key_at, key_from, nine_places}
use Rattle.feature_lines.proofs.Small.{some_of}

-- A word that spells a version is a name.

digit_is_name : (d : ℕ) → is_ascii_digit d ≡ true → is_name_byte d ≡ true
digit_is_name d is = grind (arith, is_ascii_digit, nat_tests)

-- digits have no byte that a name may not have
no_bad_digit : (w : List ℕ) (i : ℕ) → all_ascii_digits w ≡ true → position_from (λ b. not (is_name_byte b)) i w ≡ None
no_bad_digit [] i all = refl
no_bad_digit (d ∷ ds) i all =
    let two = and_parts (is_ascii_digit d) (all_ascii_digits ds) all in
    let good : is_name_byte d ≡ true = digit_is_name d two.0 in
    rw good (no_bad_digit ds (i + 1) two.1)

front_digits : (a b : List ℕ) → all_ascii_digits (a ++ b) ≡ true → all_ascii_digits a ≡ true
front_digits [] b all = refl
front_digits (d ∷ ds) b all =
    let two = and_parts (is_ascii_digit d) (all_ascii_digits (ds ++ b)) all in
    rw (two.0, front_digits ds b two.1) refl

-- the first place is this one or a later one
not_before : (w : List ℕ) (i p : ℕ) → position_from (λ b. eqb b 46) i w ≡ Some p → i ≤ p
not_before [] i p h = absurd cc
not_before (d ∷ ds) i p h = elim (eqb d 46) as (λ (t : Bool). cond t (Some i) (position_from (λ b. eqb b 46) (i + 1) ds) ≡ Some p → i ≤ p) [ true ↦ λ e. (let same : i ≡ p = cc in omega arith) | false ↦ λ e. (let later = not_before ds (i + 1) p e in omega arith) ] h

by_dot : (d : ℕ) (ds : List ℕ) (i j p q : ℕ) (t : Bool) → eqb d 46 ≡ t → cond t (Some i) (position_from (λ b. eqb b 46) (i + 1) ds) ≡ Some p → p ≡ i + q
    → all_ascii_digits (take q (d ∷ ds)) ≡ true → all_ascii_digits (drop (suc q) (d ∷ ds)) ≡ true
    → ((r : ℕ) → position_from (λ b. eqb b 46) (i + 1) ds ≡ Some p → p ≡ (i + 1) + r → all_ascii_digits (take r ds) ≡ true → all_ascii_digits (drop (suc r) ds) ≡ true → position_from (λ b. not (is_name_byte b)) (j + 1) ds ≡ None)
    → position_from (λ b. not (is_name_byte b)) j (d ∷ ds) ≡ None
by_dot d ds i j p zero true dot at is front back rest =
    let same : d ≡ 46 = eqb-true d 46 dot in
    let good : is_name_byte d ≡ true = grind (arith, nat_tests) in
    rw good (no_bad_digit ds (j + 1) back)
by_dot d ds i j p (suc r) true dot at is front back rest = let same : i ≡ p = cc in absurd (omega arith)
by_dot d ds i j p zero false dot at is front back rest = let later = not_before ds (i + 1) p at in absurd (omega arith)
by_dot d ds i j p (suc r) false dot at is front back rest =
    let two = and_parts (is_ascii_digit d) (all_ascii_digits (take r ds)) front in
    let good : is_name_byte d ≡ true = digit_is_name d two.0 in
    rw good (rest r at (omega arith) two.1 back)

-- digits, a point and digits have no byte that a name may not have
no_bad_byte : (w : List ℕ) (i j p q : ℕ) → position_from (λ b. eqb b 46) i w ≡ Some p → p ≡ i + q → all_ascii_digits (take q w) ≡ true → all_ascii_digits (drop (suc q) w) ≡ true → position_from (λ b. not (is_name_byte b)) j w ≡ None
no_bad_byte [] i j p q at is front back = refl
no_bad_byte (d ∷ ds) i j p q at is front back = by_dot d ds i j p q (eqb d 46) refl at is front back (no_bad_byte ds (i + 1) (j + 1) p)

both_parts : (a b : Option ℕ) (key : ℕ) → key_from a b ≡ Some key → (x : ℕ) × (y : ℕ) × (a ≡ Some x) × (b ≡ Some y)
both_parts None b key is = absurd cc
both_parts (Some x) None key is = absurd cc
both_parts (Some x) (Some y) key is = (x, y, refl, refl)

unless_so : {X : Type 0} (b : Bool) (o : Option X) (x : X) → cond b None o ≡ Some x → (b ≡ false) × (o ≡ Some x)
unless_so true o x is = absurd cc
unless_so false o x is = (refl, is)

-- a word of digits has one or more, and no byte that a name may not have
digits_of : (w : List ℕ) (x : ℕ) → decimal w ≡ Some x → (ltb 0 (length w) ≡ true) × (all_ascii_digits w ≡ true)
digits_of w x is = and_parts (ltb 0 (length w)) (all_ascii_digits w) (some_of _ _ x is).0

named_at : (w : List ℕ) (o : Option ℕ) (key : ℕ) → position_from (λ b. eqb b 46) 0 w ≡ o → key_at w o ≡ Some key → (0 < length w) × (position_from (λ b. not (is_name_byte b)) 0 w ≡ None)
named_at w None key at is =
    let parts = both_parts (decimal w) (Some 0) key is in
    let digits = digits_of w parts.0 parts.2 in
    (ltb-true 0 (length w) digits.0, no_bad_digit w 0 digits.1)
named_at w (Some p) key at is =
    let parts = both_parts (decimal (take p w)) _ key is in
    let front = digits_of (take p w) parts.0 parts.2 in
    let behind = some_of (ltb (p + 1) (length w)) (decimal (nine_places (drop (p + 1) w))) parts.1 parts.3 in
    let back = front_digits (drop (p + 1) w) _ (digits_of (nine_places (drop (p + 1) w)) parts.1 behind.1).1 in
    let same : p + 1 ≡ suc p = omega arith in
    let long : p + 1 < length w = ltb-true (p + 1) (length w) behind.0 in
    (omega arith, no_bad_byte w 0 0 p p at (omega arith) front.1 (subst (λ (n : ℕ). all_ascii_digits (drop n w) ≡ true) same back))

name_without_fault : (w : List ℕ) (a b : Bool) (o : Option ℕ) → a ≡ false → b ≡ false → o ≡ None → cond a (Err Empty) (cond b (Err TooLong) (unless_bad w o)) ≡ Ok w
name_without_fault w a b o p q r = rw (p, q, r) refl

-- a word that spells a version is a name
pub version_is_name : (w : List ℕ) (key : ℕ) → key_of w ≡ Some key → name_of w ≡ Ok w
version_is_name w key is =
    let short = unless_so (ltb 10 (length w)) _ key is in
    let named = named_at w _ key refl short.1 in
    let some : 0 < length w = named.0 in
    let few : length w ≤ 10 = ltb-false 10 (length w) short.0 in
    name_without_fault w _ _ _ (grind (arith, nat_tests)) (grind (arith, nat_tests)) named.1
