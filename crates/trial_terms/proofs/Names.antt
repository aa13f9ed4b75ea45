-- A letter and a number behind it are a name.
use Rattle.std.proofs.Common.{◌≡◌, ◌==◌, ℕ, ◌+◌, ◌%◌, ◌^◌, ◌<◌, ◌≤◌, ltb, true, false, not, List, [], ◌∷◌, length, decimal, None, Ok, refl, ◌∙◌, arith}
use Rattle.std.proofs.lemmas.Bool.{and_parts, and_from, le-leb, le-ltb, ne_eqb}
use Rattle.std.proofs.lemmas.Fmt.{decimal_by_steps, length-decimal-le}
use Rattle.std.proofs.lemmas.List.Folds.{list_all-append}
use Rattle.std.specs.List.{list_all, position_from}
use Rattle.lic_types.specs.Name.{is_name_byte, name_of}

digit_byte : (d : ℕ) → d < 10 → is_name_byte (48 + d) ≡ true
digit_byte d h = and_from _ _ (le-leb 33 (48 + d) (omega arith)) (le-leb (48 + d) 126 (omega arith))

-- the digits of a number may stand in a name
decimal_bytes : (n : ℕ) → n < 2 ^ 64 → list_all is_name_byte (decimal n) ≡ true
decimal_bytes n low =
    decimal_by_steps (λ (m : ℕ) (ds : List ℕ). list_all is_name_byte ds ≡ true)
    (λ m few. and_from _ _ (digit_byte m few) refl)
    (λ m ds many h. list_all-append is_name_byte ds ((48 + m % 10) ∷ []) ∙ and_from _ _ h (and_from _ _ (digit_byte (m % 10) (omega arith)) refl))
    n low

none_bad : (i : ℕ) (word : List ℕ) → list_all is_name_byte word ≡ true → position_from (λ b. not (is_name_byte b)) i word ≡ None
none_bad i [] h = refl
none_bad i (b ∷ bs) h = let parts : (is_name_byte b ≡ true) × (list_all is_name_byte bs ≡ true) = and_parts _ _ h in rw parts.0 (none_bad (i + 1) bs parts.1)

short_word : (word : List ℕ) → 0 < length word → length word ≤ 64 → list_all is_name_byte word ≡ true → name_of word ≡ Ok word
short_word word some few each =
    let any : (length word == 0) ≡ false = ne_eqb (length word) 0 (λ e. omega arith) in
    let short : ltb 64 (length word) ≡ false = le-ltb 64 (length word) few in
    rw (any, short, none_bad 0 word each) refl

-- a letter and a number
pub numbered_name : (letter number : ℕ) → is_name_byte letter ≡ true → number < 2 ^ 32 → name_of (letter ∷ decimal number) ≡ Ok (letter ∷ decimal number)
numbered_name letter number is small =
    let digits : length (decimal number) ≤ 10 = length-decimal-le 10 number (omega arith) (omega arith) (omega arith) in
    short_word (letter ∷ decimal number) (omega arith) (omega arith) (and_from _ _ is (decimal_bytes number (omega arith)))
