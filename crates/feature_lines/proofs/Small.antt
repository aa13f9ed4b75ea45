use Rattle.std.proofs.lemmas.Bool.Decides.{nat_tests}
use Rattle.std.proofs.Common.{◌≡◌, ℕ, ◌+◌, ◌-◌, ◌*◌, ◌^◌, ◌<◌, ◌≤◌, Bool, true, false, ◌&&◌, ltb, cond, List, [], ◌∷◌, length, Option, None, Some, refl, add-one, arith}
use Rattle.std.proofs.Math.Nat.{pow-suc, pow-le-pow_right}
use Rattle.std.specs.Str.{all_ascii_digits}
use Rattle.std.specs.Char.{is_ascii_digit}
use Rattle.std.proofs.lemmas.Bool.{and_parts}
use Rattle.lic_text.specs.Number.{value_after, number_of}

pub digit_small : (d : ℕ) → is_ascii_digit d ≡ true → d ≤ 57
digit_small d is = grind (arith, is_ascii_digit, nat_tests)

-- the number that at most m digits write, after those of v
below : (ds : List ℕ) (v k m : ℕ) → all_ascii_digits ds ≡ true → v < 10 ^ k → k + length ds ≤ m → value_after v ds < 10 ^ m
below [] v k m all small fits = let low : 0 < 10 = omega arith in let le = pow-le-pow_right low {i = k} {j = m} (omega arith) in omega (arith, le)
below (d ∷ ds) v k m all small fits =
    let two = and_parts (is_ascii_digit d) (all_ascii_digits ds) all in
    let low = digit_small d two.0 in
    below ds (v * 10 + (d - 48)) (k + 1) m two.1 (rw (add-one, pow-suc) (omega arith)) (omega arith)

pub some_of : {X : Type 0} (b : Bool) (o : Option X) (n : X) → cond b o None ≡ Some n → (b ≡ true) × (o ≡ Some n)
some_of true o n h = (refl, h)
some_of false o n h = absurd cc

some_is : (b : Bool) (v n : ℕ) → cond b (Some v) None ≡ Some n → v ≡ n
some_is true v n h = cc
some_is false v n h = absurd cc

-- a number of at most m digits
pub number_below : (w : List ℕ) (m n : ℕ) → length w ≤ m → number_of w ≡ Some n → n < 10 ^ m
number_below w m n short is =
    let one = some_of (ltb 0 (length w) && all_ascii_digits w) (cond (ltb (value_after 0 w) (2 ^ 64)) (Some (value_after 0 w)) None) n is in
    let all = (and_parts (ltb 0 (length w)) (all_ascii_digits w) one.0).1 in
    let value = some_is (ltb (value_after 0 w) (2 ^ 64)) (value_after 0 w) n one.1 in
    let low : 0 < 10 ^ 0 = omega arith in
    let fits : 0 + length w ≤ m = omega arith in
    let small = below w 0 0 m all low fits in
    omega (arith, value, small)
