use Rattle.std.proofs.Common.{◌≡◌, ℕ, ◌≤◌, nat_le, Bool, true, false, not, cond, List, [], ◌∷◌, ◌++◌, filter, refl, ap, ◌∙◌, arith, append_assoc}
use Rattle.std.proofs.lemmas.Bool.{and_parts, and_from, leb-true, le-leb, ne_eqb}
use Rattle.std.proofs.lemmas.List.{append-nil}
use Rattle.std.proofs.lemmas.List.Folds.{list_all-append}
use Rattle.std.proofs.lemmas.List.Splits.{slice_split-cons_no}
use Rattle.std.specs.List.{slice_split, onto_first, list_all, AllByRecursion}
use Rattle.lic_text.specs.Physical.{is_blank, is_empty, is_continued}
use Rattle.lic_text.specs.Lines.{words_of}
use Rattle.lic_types.specs.Name.{is_name_byte}
use Rattle.options_text.specs.Texts.{closed_text, spaced_text}

-- a word that can be written: one byte or more, each from 33 to 126
pub record IsToken (word : List ℕ) : Type 0 where
  pub some : is_empty word ≡ false
  pub each : list_all is_name_byte word ≡ true

above : (b : ℕ) → is_name_byte b ≡ true → 33 ≤ b
above b h = leb-true 33 b (and_parts (nat_le 33 b) (nat_le b 126) h).0

-- such a byte is no blank
no_blank : (b : ℕ) → is_name_byte b ≡ true → is_blank b ≡ false
no_blank b h =
    let low : 33 ≤ b = above b h in
    rw (ne_eqb b 32 (λ e. omega arith), ne_eqb b 9 (λ e. omega arith)) refl

-- a token ends at a space
split_token : (word rest : List ℕ) → list_all is_name_byte word ≡ true → slice_split is_blank (word ++ 32 ∷ rest) ≡ word ∷ slice_split is_blank rest
split_token [] rest h = refl
split_token (b ∷ bs) rest h =
    let parts : (is_name_byte b ≡ true) × (list_all is_name_byte bs ≡ true) = and_parts _ _ h in
    slice_split-cons_no is_blank b (bs ++ 32 ∷ rest) (no_blank b parts.0) ∙ ap (onto_first b) (split_token bs rest parts.1)

split_last : (word : List ℕ) → list_all is_name_byte word ≡ true → slice_split is_blank word ≡ word ∷ []
split_last [] h = refl
split_last (b ∷ bs) h =
    let parts : (is_name_byte b ≡ true) × (list_all is_name_byte bs ≡ true) = and_parts _ _ h in
    slice_split-cons_no is_blank b bs (no_blank b parts.0) ∙ ap (onto_first b) (split_last bs parts.1)

some_first : (word : List ℕ) (words : List (List ℕ)) → is_empty word ≡ false → filter (λ w. not (is_empty w)) (word ∷ words) ≡ word ∷ filter (λ w. not (is_empty w)) words
some_first word words h = rw h refl

words_token : (word rest : List ℕ) → IsToken word → words_of (word ++ 32 ∷ rest) ≡ word ∷ words_of rest
words_token word rest t = ap (filter (λ w. not (is_empty w))) (split_token word rest t.each) ∙ some_first word (slice_split is_blank rest) t.some

words_last : (word : List ℕ) → IsToken word → words_of word ≡ word ∷ []
words_last word t = ap (filter (λ w. not (is_empty w))) (split_last word t.each) ∙ some_first word [] t.some

-- tokens with a space between are the words of their text
words_spaced : (word : List ℕ) (words : List (List ℕ)) → IsToken word → AllByRecursion IsToken words → words_of (spaced_text word words) ≡ word ∷ words
words_spaced word [] t ts = ap words_of (append-nil word) ∙ words_last word t
words_spaced word (w ∷ ws) t ts = words_token word (spaced_text w ws) t ∙ ap (λ (others : List (List ℕ)). word ∷ others) (words_spaced w ws ts.0 ts.1)

-- and so they are with a space more
words_more : (word : List ℕ) (words : List (List ℕ)) → IsToken word → AllByRecursion IsToken words → words_of (spaced_text word words ++ 32 ∷ []) ≡ word ∷ words
words_more word [] t ts = ap (λ (text : List ℕ). words_of (text ++ 32 ∷ [])) (append-nil word) ∙ words_token word [] t
words_more word (w ∷ ws) t ts =
    ap words_of (append_assoc word (32 ∷ spaced_text w ws) (32 ∷ []))
    ∙ (words_token word (spaced_text w ws ++ 32 ∷ []) t ∙ ap (λ (others : List (List ℕ)). word ∷ others) (words_more w ws ts.0 ts.1))

either : (b : Bool) (words : List (List ℕ)) (x y : List ℕ) → words_of x ≡ words → words_of y ≡ words → words_of (cond b x y) ≡ words
either true words x y h g = h
either false words x y h g = g

-- the words of a line's text
pub words_closed : (word : List ℕ) (words : List (List ℕ)) → IsToken word → AllByRecursion IsToken words → words_of (closed_text (spaced_text word words)) ≡ word ∷ words
words_closed word words t ts =
    either (is_continued (spaced_text word words)) (word ∷ words) (spaced_text word words ++ 32 ∷ []) (spaced_text word words) (words_more word words t ts) (words_spaced word words t ts)

-- No byte of a line's text is below 32.

token_free : (word : List ℕ) → list_all is_name_byte word ≡ true → list_all (λ b. nat_le 32 b) word ≡ true
token_free [] h = refl
token_free (b ∷ bs) h =
    let parts : (is_name_byte b ≡ true) × (list_all is_name_byte bs ≡ true) = and_parts _ _ h in
    let low : 33 ≤ b = above b parts.0 in
    and_from _ _ (le-leb 32 b (omega arith)) (token_free bs parts.1)

both_free : (a b : List ℕ) → list_all (λ x. nat_le 32 x) a ≡ true → list_all (λ x. nat_le 32 x) b ≡ true → list_all (λ x. nat_le 32 x) (a ++ b) ≡ true
both_free a b h g = list_all-append (λ x. nat_le 32 x) a b ∙ and_from _ _ h g

spaced_free : (word : List ℕ) (words : List (List ℕ)) → IsToken word → AllByRecursion IsToken words → list_all (λ b. nat_le 32 b) (spaced_text word words) ≡ true
spaced_free word [] t ts = both_free word [] (token_free word t.each) refl
spaced_free word (w ∷ ws) t ts = both_free word (32 ∷ spaced_text w ws) (token_free word t.each) (spaced_free w ws ts.0 ts.1)

either_free : (b : Bool) (x y : List ℕ) → list_all (λ n. nat_le 32 n) x ≡ true → list_all (λ n. nat_le 32 n) y ≡ true → list_all (λ n. nat_le 32 n) (cond b x y) ≡ true
either_free true x y h g = h
either_free false x y h g = g

pub closed_free : (word : List ℕ) (words : List (List ℕ)) → IsToken word → AllByRecursion IsToken words → list_all (λ b. nat_le 32 b) (closed_text (spaced_text word words)) ≡ true
closed_free word words t ts =
    let free : list_all (λ b. nat_le 32 b) (spaced_text word words) ≡ true = spaced_free word words t ts in
    either_free (is_continued (spaced_text word words)) (spaced_text word words ++ 32 ∷ []) (spaced_text word words) (both_free (spaced_text word words) (32 ∷ []) free refl) free
