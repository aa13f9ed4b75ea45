-- The words of a text whose words stand with one space between, and numbers that are read back.
use Rattle.std.proofs.Common.{◌≡◌, ℕ, ◌^◌, ◌<◌, ◌≤◌, nat_le, true, false, not, ltb, List, [], ◌∷◌, ◌++◌, length, filter, decimal, Some, refl, sym, ap, ◌∙◌, arith, rules, append_assoc}
use Rattle.std.proofs.lemmas.Bool.{and_parts, and_from, leb-true, le-leb, lt-ltb, ne_eqb}
use Rattle.std.proofs.lemmas.Fmt.{decimal_nonempty, digits_decimal, digits_value-decimal}
use Rattle.std.proofs.lemmas.List.Splits.{slice_split-cons_no}
use Rattle.std.proofs.lemmas.Str.Parse.{IsNumeralModel, numerals_by_fold}
use Rattle.std.specs.Char.{is_ascii_digit}
use Rattle.std.specs.List.{slice_split, onto_first, list_all}
use Rattle.std.specs.Str.{all_ascii_digits}
use Rattle.lic_text.specs.Lines.{words_of}
use Rattle.lic_text.specs.Number.{number_of, value_after}
use Rattle.lic_text.specs.Physical.{is_blank, is_empty}
use Rattle.lic_types.specs.Name.{is_name_byte}

-- a word that can be written: one byte or more, each from 33 to 126
pub record IsToken (word : List ℕ) : Type 0 where
  pub some : is_empty word ≡ false
  pub each : list_all is_name_byte word ≡ true

above : (b : ℕ) → is_name_byte b ≡ true → 33 ≤ b
above b h = leb-true 33 b (and_parts (nat_le 33 b) (nat_le b 126) h).0

no_blank : (b : ℕ) → is_name_byte b ≡ true → is_blank b ≡ false
no_blank b h =
    let low : 33 ≤ b = above b h in
    rw (ne_eqb b 32 (λ e. omega arith), ne_eqb b 9 (λ e. omega arith)) refl

split_token : (word rest : List ℕ) → list_all is_name_byte word ≡ true → slice_split is_blank (word ++ 32 ∷ rest) ≡ word ∷ slice_split is_blank rest
split_token [] rest h = refl
split_token (b ∷ bs) rest h =
    let parts : (is_name_byte b ≡ true) × (list_all is_name_byte bs ≡ true) = and_parts _ _ h in
    slice_split-cons_no is_blank b (bs ++ 32 ∷ rest) (no_blank b parts.0) ∙ ap (onto_first b) (split_token bs rest parts.1)

split_last : (word : List ℕ) → list_all is_name_byte word ≡ true → slice_split is_blank word ≡ word ∷ []
split_last [] h = refl
split_last (b ∷ bs) h =
    let parts : (is_name_byte b ≡ true) × (list_all is_name_byte bs ≡ true) = and_parts _ _ h in
    slice_split-cons_no is_blank b bs (no_blank b parts.0) ∙ ap (onto_first b) (split_last bs parts.1)

some_first : (word : List ℕ) (words : List (List ℕ)) → is_empty word ≡ false → filter (λ w. not (is_empty w)) (word ∷ words) ≡ word ∷ filter (λ w. not (is_empty w)) words
some_first word words h = rw h refl

-- a token, a space, and what stands behind it
pub next : (word rest : List ℕ) (words : List (List ℕ)) → IsToken word → words_of rest ≡ words → words_of (word ++ 32 ∷ rest) ≡ word ∷ words
next word rest words t h =
    ap (filter (λ w. not (is_empty w))) (split_token word rest t.each) ∙ some_first word (slice_split is_blank rest) t.some ∙ ap (λ (ws : List (List ℕ)). word ∷ ws) h

-- a token alone
pub last : (word : List ℕ) → IsToken word → words_of word ≡ word ∷ []
last word t = ap (filter (λ w. not (is_empty w))) (split_last word t.each) ∙ some_first word [] t.some

-- behind the text and a space other words begin, and these are those of the text
pub record Says (text : List ℕ) (words : List (List ℕ)) : Type 0 where
  pub before : (rest : List ℕ) → words_of (text ++ 32 ∷ rest) ≡ words ++ words_of rest

pub says_one : (word : List ℕ) → IsToken word → Says word (word ∷ [])
says_one word t = record { before = λ rest. next word rest (words_of rest) t refl }

pub says_more : (text word : List ℕ) (words : List (List ℕ)) → Says text words → IsToken word → Says (text ++ 32 ∷ word) (words ++ word ∷ [])
says_more text word words s t = record {
  before = λ rest. ap words_of (append_assoc text (32 ∷ word) (32 ∷ rest))
      ∙ (s.before (word ++ 32 ∷ rest) ∙ (ap (λ (ws : List (List ℕ)). words ++ ws) (next word rest (words_of rest) t refl) ∙ sym (append_assoc words (word ∷ []) (words_of rest))));
}

-- Numbers.

own : IsNumeralModel (λ ds. all_ascii_digits ds ≡ true) (value_after 0)
own = numerals_by_fold _ (search rules) value_after (search rules)

digit_byte : (c : ℕ) → is_ascii_digit c ≡ true → is_name_byte c ≡ true
digit_byte c h =
    let parts : (nat_le 48 c ≡ true) × (nat_le c 57 ≡ true) = and_parts (nat_le 48 c) (nat_le c 57) h in
    and_from _ _ (le-leb 33 c (omega (arith, leb-true 48 c parts.0))) (le-leb c 126 (omega (arith, leb-true c 57 parts.1)))

digit_bytes : (ds : List ℕ) → all_ascii_digits ds ≡ true → list_all is_name_byte ds ≡ true
digit_bytes [] h = refl
digit_bytes (c ∷ cs) h =
    let parts : (is_ascii_digit c ≡ true) × (all_ascii_digits cs ≡ true) = and_parts _ _ h in
    and_from _ _ (digit_byte c parts.0) (digit_bytes cs parts.1)

some_digit : (ds : List ℕ) → 0 < length ds → is_empty ds ≡ false
some_digit [] h = absurd (omega arith)
some_digit (d ∷ ds) h = refl

-- the decimals of a number are digits
pub decimal_digits : (n : ℕ) → n < 2 ^ 64 → all_ascii_digits (decimal n) ≡ true
decimal_digits n small = digits_decimal own n small

-- the decimals of a number are a token
pub token_number : (n : ℕ) → n < 2 ^ 64 → IsToken (decimal n)
token_number n small = record { some = some_digit (decimal n) (decimal_nonempty n small); each = digit_bytes (decimal n) (digits_decimal own n small) }

-- a number is read back from its decimals
pub number_back : (n : ℕ) → n < 2 ^ 64 → number_of (decimal n) ≡ Some n
number_back n small =
    let some : ltb 0 (length (decimal n)) ≡ true = lt-ltb _ _ (decimal_nonempty n small) in
    let digits : all_ascii_digits (decimal n) ≡ true = digits_decimal own n small in
    let value : value_after 0 (decimal n) ≡ n = digits_value-decimal own n small in
    let fits : ltb n (2 ^ 64) ≡ true = lt-ltb _ _ small in
    rw (some, digits, value, fits) refl
