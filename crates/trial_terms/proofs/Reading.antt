-- How the licence of a trial is read.
use Rattle.std.proofs.Common.{◌≡◌, ◌==◌, ℕ, ◌+◌, ◌^◌, ◌<◌, ◌≤◌, nat_le, not, true, false, ltb, List, [], ◌∷◌, ◌++◌, length, decimal, map, codes, Option, None, Some, Result, Ok, refl, sym, ap, ◌∙◌, arith, rules}
use Rattle.std.proofs.lemmas.Bool.{and_parts, and_from, leb-true, le-leb, lt-ltb, le-ltb, ne_eqb}
use Rattle.std.proofs.lemmas.Fmt.{decimal_nonempty, digits_decimal, digits_value-decimal, length-decimal-le}
use Rattle.std.proofs.lemmas.List.{append-nil, length-append}
use Rattle.std.proofs.lemmas.List.Splits.{slice_split-cons_no}
use Rattle.std.proofs.lemmas.Str.Parse.{IsNumeralModel, numerals_by_fold}
use Rattle.std.specs.Char.{is_ascii_digit}
use Rattle.std.specs.List.{list_all, onto_first, slice_split, AllByRecursion}
use Rattle.std.specs.Str.{all_ascii_digits}
use Rattle.lic_text.specs.Number.{number_of, value_after}
use Rattle.lic_text.specs.Physical.{is_comment, is_continued, is_empty, physical_lines, without_empty_end, without_return}
use Rattle.lic_text.specs.Prefix.{has_no_end, joined_text, line_count, lines_behind}
use Rattle.lic_text.specs.Lines.{Worded, fault_of, lines_from, lines_of, words_of}
use Rattle.lic_text.specs.declared.fault.TextFault.{TextFault}
use Rattle.lic_text.proofs.Prefixes.{at_words, none_left}
use Rattle.feature_lines.specs.Licence.{licence_in, licence_of}
use Rattle.feature_lines.specs.Line.{count_of, line_with_terms, is_word, said_or_fault, or_fault, said_of}
use Rattle.feature_lines.specs.declared.fault.LicenceFault.{LicenceFault}
use Rattle.feature_lines.specs.declared.fault.LicenceFault.TheVariants.{BadCount}
use Rattle.feature_lines.specs.declared.line.FeatureLine.{FeatureLine}
use Rattle.feature_lines.specs.declared.line.Said.{Said}
use Rattle.feature_lines.specs.declared.line.Said.TheVariants.{Feature as Grants}
use Rattle.lic_types.specs.declared.day.Expiry.TheVariants.{Never}
use Rattle.lic_types.specs.Name.{is_name_byte}
use Rattle.options_text.specs.Options.{options_of}
use Rattle.options_text.specs.Texts.{closed_text, spaced_text}
use Rattle.options_text.proofs.Closings.{continued_behind, ends_other, ends_step, no_return}
use Rattle.options_text.proofs.Tokens.{IsToken, closed_free, words_closed}
use Rattle.trial_terms.specs.Terms.{licence_text, no_options, trial_pool}

own : IsNumeralModel (λ ds. all_ascii_digits ds ≡ true) (value_after 0)
own = numerals_by_fold _ (search rules) value_after (search rules)

digit_byte : (c : ℕ) → is_ascii_digit c ≡ true → is_name_byte c ≡ true
digit_byte c h =
    let parts : (nat_le 48 c ≡ true) × (nat_le c 57 ≡ true) = and_parts (nat_le 48 c) (nat_le c 57) h in
    and_from _ _ (le-leb 33 c (omega (arith, leb-true 48 c parts.0))) (le-leb c 126 (omega (arith, leb-true c 57 parts.1)))

digit_bytes : (ds : List ℕ) → all_ascii_digits ds ≡ true → list_all is_name_byte ds ≡ true
digit_bytes [] h = refl
digit_bytes (c ∷ cs) h =
    let parts : (is_ascii_digit c ≡ true) × (all_ascii_digits cs ≡ true) = and_parts _ _ h in
    and_from _ _ (digit_byte c parts.0) (digit_bytes cs parts.1)

-- digits end in no backslash
digits_end : (ds : List ℕ) → all_ascii_digits ds ≡ true → is_continued ds ≡ false
digits_end [] h = refl
digits_end (c ∷ []) h =
    let digit : is_ascii_digit c ≡ true = (and_parts (is_ascii_digit c) true h).0 in
    let parts : (nat_le 48 c ≡ true) × (nat_le c 57 ≡ true) = and_parts (nat_le 48 c) (nat_le c 57) digit in
    ends_other 92 c (λ e. omega (arith, leb-true c 57 parts.1))
digits_end (c ∷ d ∷ ds) h = ends_step 92 c d ds ∙ digits_end (d ∷ ds) (and_parts (is_ascii_digit c) _ h).1

some_digit : (ds : List ℕ) → 0 < length ds → is_empty ds ≡ false
some_digit [] h = absurd (omega arith)
some_digit (d ∷ ds) h = refl

module _ (n : ℕ) (low : n < 2 ^ 64) where
  digits : all_ascii_digits (decimal n) ≡ true
  digits = digits_decimal own n low

  token : IsToken (decimal n)
  token = record { some = some_digit (decimal n) (decimal_nonempty n low); each = digit_bytes (decimal n) digits }

  -- a number is read back from its decimals
  pub decimal_back : number_of (decimal n) ≡ Some n
  decimal_back =
      let some : ltb 0 (length (decimal n)) ≡ true = lt-ltb _ _ (decimal_nonempty n low) in
      let value : value_after 0 (decimal n) ≡ n = digits_value-decimal own n low in
      let fits : ltb n (2 ^ 64) ≡ true = lt-ltb _ _ low in
      rw (some, digits, value, fits) refl

  abbrev words : List (List ℕ)
  words = codes "trial" ∷ codes "v" ∷ codes "1.0" ∷ codes "permanent" ∷ decimal n ∷ []

  -- the text, as its words with spaces between
  text_is : spaced_text (codes "FEATURE") words ≡ licence_text n
  text_is = ap (λ ds. codes "FEATURE trial v 1.0 permanent " ++ ds) (append-nil (decimal n))

  ends : is_continued (licence_text n) ≡ false
  ends = continued_behind (codes "FEATURE trial v 1.0 permanent") (decimal n) ∙ digits_end (decimal n) digits

  closed_is : closed_text (spaced_text (codes "FEATURE") words) ≡ licence_text n
  closed_is = ap closed_text text_is ∙ rw ends refl

  all_tokens : AllByRecursion IsToken words
  all_tokens = (record { some = refl; each = refl }, (record { some = refl; each = refl }, (record { some = refl; each = refl }, (record { some = refl; each = refl }, (token, tt)))))

  -- its words
  pub says : words_of (licence_text n) ≡ codes "FEATURE" ∷ words
  says = ap words_of (sym closed_is) ∙ words_closed (codes "FEATURE") words (record { some = refl; each = refl }) all_tokens

  -- none of its bytes is below 32
  pub free : list_all (λ b. nat_le 32 b) (licence_text n) ≡ true
  free = ap (list_all (λ b. nat_le 32 b)) (sym closed_is) ∙ closed_free (codes "FEATURE") words (record { some = refl; each = refl }) all_tokens

-- digits are no word of letters
no_letters : (ds : List ℕ) → all_ascii_digits ds ≡ true → 0 < length ds → is_word ds (codes "uncounted") ≡ false
no_letters [] h some = absurd (omega arith)
no_letters (c ∷ cs) h some =
    let digit : is_ascii_digit c ≡ true = (and_parts (is_ascii_digit c) (all_ascii_digits cs) h).0 in
    let parts : (nat_le 48 c ≡ true) × (nat_le c 57 ≡ true) = and_parts (nat_le 48 c) (nat_le c 57) digit in
    let high : c ≤ 57 = leb-true c 57 parts.1 in
    let low : ltb c 65 ≡ true = lt-ltb c 65 (omega arith) in
    let other : (c == 117) ≡ false = ne_eqb c 117 (λ e. omega arith) in
    rw (low, other) refl

-- a text without a byte below 32 is one physical line
split_none : (text : List ℕ) → list_all (λ b. nat_le 32 b) text ≡ true → slice_split (λ b. b == 10) text ≡ text ∷ []
split_none [] h = refl
split_none (b ∷ bs) h =
    let parts : (nat_le 32 b ≡ true) × (list_all (λ x. nat_le 32 x) bs ≡ true) = and_parts _ _ h in
    let low : 32 ≤ b = leb-true 32 b parts.0 in
    slice_split-cons_no (λ x. x == 10) b bs (ne_eqb b 10 (λ e. omega arith)) ∙ ap (onto_first b) (split_none bs parts.1)

stays : (text : List ℕ) → list_all (λ b. nat_le 32 b) text ≡ true → without_return text ≡ text
stays text free = rw (no_return text free) refl

no_fault : (n size : ℕ) → size ≤ 8192 → fault_of n size false ≡ None
no_fault n size h = rw (le-ltb 8192 size h) refl

-- one physical line with words is one line
one_line : (text : List ℕ) (words : List (List ℕ)) → is_comment text ≡ false → is_continued text ≡ false → length text ≤ 8192 → words_of text ≡ words → is_empty words ≡ false
    → lines_from 1 (text ∷ []) ≡ Ok (1, words) ∷ []
one_line text words silent ends short says some =
    let joined : joined_text (text ∷ []) ≡ text = rw ends refl in
    let ended : has_no_end (text ∷ []) ≡ false = rw ends refl in
    let count : line_count (text ∷ []) ≡ 1 = rw ends refl in
    let behind : lines_behind (text ∷ []) ≡ [] = rw ends refl in
    let said : words_of (joined_text (text ∷ [])) ≡ words = ap words_of joined ∙ says in
    let fine : fault_of 1 (length (joined_text (text ∷ []))) (has_no_end (text ∷ [])) ≡ None =
    (ap (λ (line : List ℕ). fault_of 1 (length line) (has_no_end (text ∷ []))) joined ∙ (ap (fault_of 1 (length text)) ended ∙ no_fault 1 (length text) short)) in
    let told : not (is_empty (words_of (joined_text (text ∷ [])))) ≡ true = ap (λ (ws : List (List ℕ)). not (is_empty ws)) said ∙ ap not some in
    at_words text [] 1 silent fine told
    ∙ (ap (λ (ws : List (List ℕ)). Ok (1, ws) ∷ lines_from (1 + line_count (text ∷ [])) (lines_behind (text ∷ []))) said
    ∙ (ap (λ (c : ℕ). Ok (1, words) ∷ lines_from (1 + c) (lines_behind (text ∷ []))) count
    ∙ (ap (λ (rest : List (List ℕ)). Ok (1, words) ∷ lines_from (1 + 1) rest) behind
    ∙ ap (λ (rest : List (Result Worded TextFault)). Ok (1, words) ∷ rest) (none_left (1 + 1)))))

-- the line, as its words say it
abbrev line_said : ℕ → FeatureLine
line_said n = record {
  line = 1;
  is_feature = true;
  name = codes "trial";
  vendor = codes "v";
  version = record { key = 1000000000 };
  version_text = codes "1.0";
  expiry = Never;
  count = n;
}

module _ (n : ℕ) (low : n < 2 ^ 64) (few : n ≤ 65535) where
  count_is : count_of (decimal n) ≡ Some n
  count_is =
      let word : is_word (decimal n) (codes "uncounted") ≡ false = no_letters (decimal n) (digits n low) (decimal_nonempty n low) in
      let fits : ltb 65535 n ≡ false = le-ltb 65535 n few in
      rw (word, decimal_back n low, fits) refl

  said : said_of 1 (codes "FEATURE" ∷ words n low) ≡ Ok (Grants (line_said n))
  said = ap (λ (o : Option ℕ). line_with_terms 1 true (codes "trial") (codes "v") (or_fault (BadCount 1) o (λ count. Ok (record { version = record { key = 1000000000 }; version_text = codes "1.0"; expiry = Never; count = count })))) count_is

  pub short : length (licence_text n) ≤ 8192
  short =
      let ten : n < 10 ^ 5 = omega arith in
      let digits_few : length (decimal n) ≤ 5 = length-decimal-le 5 n (omega arith) ten low in
      let long : length (licence_text n) ≡ 30 + length (decimal n) = length-append (codes "FEATURE trial v 1.0 permanent ") (decimal n) in
      omega (arith, long, digits_few)

  physical : physical_lines (licence_text n) ≡ licence_text n ∷ []
  unfolding physical_lines
  physical =
      ap (λ parts. map without_return (without_empty_end parts)) (split_none (licence_text n) (free n low))
      ∙ ap (λ (text : List ℕ). text ∷ []) (stays (licence_text n) (free n low))

  lines_are : lines_of (licence_text n) ≡ Ok (1, codes "FEATURE" ∷ words n low) ∷ []
  lines_are = ap (lines_from 1) physical ∙ one_line (licence_text n) (codes "FEATURE" ∷ words n low) refl (ends n low) short (says n low) refl

  judged_is : map said_or_fault (lines_of (licence_text n)) ≡ Ok (Grants (line_said n)) ∷ []
  judged_is = ap (map said_or_fault) lines_are ∙ ap (λ (said : Result Said LicenceFault). said ∷ []) said

  -- one line of one pool is read
  licence_is : 0 < n → licence_in (Ok (Grants (line_said n)) ∷ []) ≡ Ok (record { pools = trial_pool n ∷ []; notes = [] })
  licence_is some =
      let counted : (n == 0) ≡ false = ne_eqb n 0 (λ e. omega arith) in
      let fits : ltb 65535 (0 + n) ≡ false = le-ltb 65535 (0 + n) (omega arith) in
      let same : 0 + n ≡ n = omega arith in
      rw (counted, fits, same) refl

  pub reads : 0 < n → licence_of (licence_text n) ≡ Ok (record { pools = trial_pool n ∷ []; notes = [] })
  reads some = ap licence_in judged_is ∙ licence_is some

-- what the text of a licence says
pub text_says : (n : ℕ) (text : List ℕ) → 1 ≤ n → n ≤ 65535 → text ≡ licence_text n → licence_of text ≡ Ok (record { pools = trial_pool n ∷ []; notes = [] })
text_says n text some few is = ap licence_of is ∙ reads n (omega arith) few (omega arith)

-- an empty options file
pub no_lines : options_of [] ≡ Ok no_options
unfolding lines_from physical_lines
no_lines = refl
